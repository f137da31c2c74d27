-- What the code and the outcome of explained octets say.
use Rattle.std.proofs.Common.{◌≡◌, ℕ, List, refl, sym, ap, ap₂, subst, ◌∙◌, arith}
use Rattle.std.specs.Prelude.{None, Some}
use Rattle.bac_tag.specs.Laws.Spelling.{unmarked_least}
use Rattle.bac_tag.specs.Spelling.{HasMark}
use Rattle.bac_npdu.specs.Meanings.{IsFirstFlaw}
use Rattle.bac_npdu_parts.specs.Frames.{SpellsFrame}
use Rattle.bac_explain.specs.declared.verdict.Verdict.{Verdict}
use Rattle.bac_explain.specs.declared.verdict.Verdict.TheVariants.{Accepted, Refused}
use Rattle.bac_explain.specs.Verdicts.{IsVerdict}
use Rattle.bac_c.specs.declared.outcomes.Outcome.{Outcome}
use Rattle.bac_c.specs.Explaining.{TellsOfLines, TellsOfPieces, verdict_code, verdict_outcome, with_octets, with_pieces}
use Rattle.bac_c.specs.Outcomes.{IsCanonical, IsHopeless, Tells}

-- code 0
pub said_canonical : (octets : List ℕ) (v : Verdict) (code : ℕ) → IsVerdict octets v → code ≡ verdict_code v → code ≡ 0 → IsCanonical octets
said_canonical octets (Accepted None typed) code is e zero = (is.0, unmarked_least None refl is.2)
said_canonical octets (Accepted (Some place) typed) code is e zero = absurd (omega (arith, e, zero))
said_canonical octets (Refused refusal) code is e zero = absurd (omega (arith, e, zero))

-- code 1
pub said_tolerated : (octets : List ℕ) (v : Verdict) (code place : ℕ) → IsVerdict octets v → code ≡ verdict_code v → place ≡ (verdict_outcome v).place → code ≡ 1 → IsFirstFlaw octets place
said_tolerated octets (Accepted None typed) code place is e told one = absurd (omega (arith, e, one))
said_tolerated octets (Accepted (Some flaw) typed) code place is e told one = (is.0, is.1, subst (λ (k : ℕ). HasMark (SpellsFrame is.0) octets (Some k)) (sym told) is.2)
said_tolerated octets (Refused refusal) code place is e told one = absurd (omega (arith, e, one))

-- code 3
said_refused : (octets : List ℕ) (v : Verdict) (code : ℕ) → IsVerdict octets v → code ≡ verdict_code v → code ≡ 3 → Tells (IsHopeless octets) (verdict_outcome v)
said_refused octets (Accepted None typed) code is e three = absurd (omega (arith, e, three))
said_refused octets (Accepted (Some place) typed) code is e three = absurd (omega (arith, e, three))
said_refused octets (Refused refusal) code is e three = (refusal, record { refused = is.0; reasoned = is.1; memory = is.2 }, refl)

-- code 3, with the number of pieces
pub said_refused_in_pieces : (octets : List ℕ) (v : Verdict) (code count : ℕ) (outcome : Outcome) → IsVerdict octets v → code ≡ verdict_code v → outcome ≡ with_pieces count (verdict_outcome v) → code ≡ 3 → TellsOfPieces (IsHopeless octets) outcome
said_refused_in_pieces octets v code count outcome is e told three =
    let t = said_refused octets v code is e three in
    (t.0, t.1, told ∙ ap₂ with_pieces (sym (ap (λ (o : Outcome). o.fields) told)) t.2)

-- code 3, with the number of octets of lines
pub said_refused_in_lines : (octets : List ℕ) (v : Verdict) (code count : ℕ) (outcome : Outcome) → IsVerdict octets v → code ≡ verdict_code v → outcome ≡ with_octets count (verdict_outcome v) → code ≡ 3 → TellsOfLines (IsHopeless octets) outcome
said_refused_in_lines octets v code count outcome is e told three =
    let t = said_refused octets v code is e three in
    (t.0, t.1, told ∙ ap₂ with_octets (sym (ap (λ (o : Outcome). o.count) told)) t.2)
