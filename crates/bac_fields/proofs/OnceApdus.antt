-- The fields of an APDU tell it.
use Rattle.std.specs.Prelude.{◌≡◌, ℕ, List, drop}
use Rattle.std.proofs.Common.{sym, ◌∙◌, ap, subst}
use Rattle.bac_tag.proofs.HeadOctetLemmas.{headed_rest}
use Rattle.bac_service.specs.declared.kind.Kind.TheVariants as kind
use Rattle.bac_apdu.specs.Apdus.{ApduValue, head_of, SpellsServiceOf, SpellsApdu}
use Rattle.bac_fields.specs.ApduSymbols.{apdu_said, ApduType, confirmed_request, unconfirmed_request, simple_ack, complex_ack, segment_ack, error, reject, abort, request_segment, ack_segment, SaidBy, apdu_of, said_by, SpellsBy, first_name, type_named}
use Rattle.bac_fields.specs.Laws.Apdus.{type_of, begins_so, name_tells, some_same}
use Rattle.bac_fields.proofs.OneFrame.{truth_same, head_same}
use Rattle.bac_fields.proofs.OnceServices.{name_at, number_at, contents_at, service_same}

pub pair_same : {A B : Type 0} {v w : A × B} → v.0 ≡ w.0 → v.1 ≡ w.1 → v ≡ w
pair_same {v} {w} e f = ap (λ x. (x, v.1)) e ∙ ap (λ y. (w.0, y)) f

-- ---- of one type

type_same : (type : ApduType) (v w : SaidBy type) (b c : List ℕ) → SpellsBy type v b → SpellsBy type w c → said_by type v ≡ said_by type w → v ≡ w
type_same confirmed_request v w b c h j e =
    let first = headed_rest (head_of (apdu_of confirmed_request v)) (SpellsServiceOf kind.Confirmed v.1) b h in
    let second = headed_rest (head_of (apdu_of confirmed_request w)) (SpellsServiceOf kind.Confirmed w.1) c j in
    pair_same (head_same v.0 w.0 (ap (number_at 1) e) (truth_same v.0.sa w.0.sa (ap (number_at 2) e)) (ap (number_at 3) e) (ap (number_at 4) e)) (service_same kind.Confirmed v.1 w.1 first.0 second.0 first.1 second.1 (ap (drop 15) e))
type_same unconfirmed_request v w b c h j e =
    let first = headed_rest (head_of (apdu_of unconfirmed_request v)) (SpellsServiceOf kind.Unconfirmed v) b h in
    let second = headed_rest (head_of (apdu_of unconfirmed_request w)) (SpellsServiceOf kind.Unconfirmed w) c j in
    service_same kind.Unconfirmed v w first.0 second.0 first.1 second.1 (ap (drop 3) e)
type_same simple_ack v w b c h j e = pair_same (ap (number_at 1) e) (ap (number_at 2) e)
type_same complex_ack v w b c h j e =
    let first = headed_rest (head_of (apdu_of complex_ack v)) (SpellsServiceOf kind.ComplexAck v.1) b h in
    let second = headed_rest (head_of (apdu_of complex_ack w)) (SpellsServiceOf kind.ComplexAck w.1) c j in
    pair_same (ap (number_at 1) e) (service_same kind.ComplexAck v.1 w.1 first.0 second.0 first.1 second.1 (ap (drop 6) e))
type_same segment_ack v w b c h j e =
    pair_same (ap (number_at 1) e) (pair_same (truth_same v.1.0 w.1.0 (ap (number_at 2) e)) (pair_same (truth_same v.1.1.0 w.1.1.0 (ap (number_at 3) e)) (pair_same (ap (number_at 4) e) (ap (number_at 5) e))))
type_same error v w b c h j e =
    let first = headed_rest (head_of (apdu_of error v)) (SpellsServiceOf kind.Error v.1) b h in
    let second = headed_rest (head_of (apdu_of error w)) (SpellsServiceOf kind.Error w.1) c j in
    pair_same (ap (number_at 1) e) (service_same kind.Error v.1 w.1 first.0 second.0 first.1 second.1 (ap (drop 6) e))
type_same reject v w b c h j e = pair_same (ap (number_at 1) e) (ap (number_at 2) e)
type_same abort v w b c h j e = pair_same (ap (number_at 1) e) (pair_same (truth_same v.1.0 w.1.0 (ap (number_at 2) e)) (ap (number_at 3) e))
type_same request_segment v w b c h j e =
    pair_same (head_same v.0 w.0 (ap (number_at 1) e) (truth_same v.0.sa w.0.sa (ap (number_at 2) e)) (ap (number_at 3) e) (ap (number_at 4) e))
    (pair_same (ap (number_at 5) e) (pair_same (ap (number_at 6) e) (pair_same (truth_same v.1.1.1.0 w.1.1.1.0 (ap (number_at 7) e)) (pair_same (ap (number_at 8) e) (ap (contents_at 9) e)))))
type_same ack_segment v w b c h j e =
    pair_same (ap (number_at 1) e)
    (pair_same (ap (number_at 2) e) (pair_same (ap (number_at 3) e) (pair_same (truth_same v.1.1.1.0 w.1.1.1.0 (ap (number_at 4) e)) (pair_same (ap (number_at 5) e) (ap (contents_at 6) e)))))

-- ---- of any type

across : (t u : ApduType) (same : t ≡ u) (v : SaidBy t) (w : SaidBy u) (b c : List ℕ) → SpellsBy t v b → SpellsBy u w c → said_by t v ≡ said_by u w → apdu_of t v ≡ apdu_of u w
across t u same v w b c h =
    subst (λ (u : ApduType). (w : SaidBy u) → SpellsBy u w c → said_by t v ≡ said_by u w → apdu_of t v ≡ apdu_of u w) same (λ w j e. ap (apdu_of t) (type_same t v w b c h j e)) w

pub apdu_same : (a d : ApduValue) (b c : List ℕ) → SpellsApdu a b → SpellsApdu d c → apdu_said a ≡ apdu_said d → a ≡ d
apdu_same a d b c h j e =
    let (t, v, is) = type_of a in
    let (u, w, are) = type_of d in
    let whole : said_by t v ≡ said_by u w = ap apdu_said is ∙ e ∙ ap apdu_said (sym are) in
    let names : first_name t ≡ first_name u = sym (ap (name_at 0) (begins_so t v).1) ∙ ap (name_at 0) whole ∙ ap (name_at 0) (begins_so u w).1 in
    let types = some_same t u (sym (name_tells t) ∙ ap type_named names ∙ name_tells u) in
    sym is ∙ across t u types v w b c (subst (λ x. SpellsApdu x b) (sym is) h) (subst (λ x. SpellsApdu x c) (sym are) j) whole ∙ are
