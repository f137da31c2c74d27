-- Files that normalise wrote.
use Rattle.std.proofs.Common.{◌≡◌, ℕ, suc, ◌+◌, List, [], ◌∷◌, ◌++◌, length, refl, sym, ap, subst, ◌∙◌}
use Rattle.std.specs.List.{AllByRecursion}
use Rattle.bac_tag.specs.Spelling.{IsLeast}
use Rattle.bac_tag.specs.Laws.Spelling.{IsLeast-one}
use Rattle.bac_npdu_parts.specs.Frames.{FrameValue, SpellsFrame}
use Rattle.bac_stream.specs.Judging.{IsCanonicalFor, Accepts}
use Rattle.bac_stream.specs.Lines.{NormalisesTo, IsKept}
use Rattle.bac_record.specs.Outputs.{Outputs}
use Rattle.bac_record.specs.Records.{record_of, joined, IsRecord}
use Rattle.bac_stream.specs.declared.modes.Mode.{Mode}
use Rattle.bac_stream.specs.declared.modes.Mode.TheVariants.{Tolerant, Strict}
use Rattle.bac_stream.proofs.JudgingLemmas.{accepted_spelled, written_fits}

canonical_accepted : (mode : Mode) (frame : FrameValue) (c : List ℕ) → IsCanonicalFor frame c → Accepts mode frame c
canonical_accepted Tolerant frame c h = h.member
canonical_accepted Strict frame c h = h

module _ (frames : (f g : FrameValue) (b : List ℕ) → SpellsFrame f b → SpellsFrame g b → f ≡ g) where
  -- what is written of canonical octets is they themselves
  written_again : (mode : Mode) (n : ℕ) (frame : FrameValue) (c output : List ℕ) → IsCanonicalFor frame c → NormalisesTo mode n c output → output ≡ record_of c
  written_again mode n frame c output h p =
      let same = frames p.0 frame c (accepted_spelled mode p.0 c p.2) h.member in
      let one : p.1 ≡ c = IsLeast-one (SpellsFrame frame) p.1 c (subst (λ (f : FrameValue). IsLeast (SpellsFrame f) p.1) same p.3) h in
      p.4 ∙ ap record_of one

  -- the same from any number on
  record KeptFrom (n records : ℕ) (file : List ℕ) : Type 0 where
    list : List (List ℕ)
    count : length list ≡ records
    each : AllByRecursion IsRecord list
    joins : file ≡ joined list
    written : (mode : Mode) → Outputs (NormalisesTo mode) n list file
    alone : (mode : Mode) (output : List ℕ) → Outputs (NormalisesTo mode) n list output → output ≡ file

  kept_from : (mode : Mode) (n : ℕ) (list : List (List ℕ)) (output : List ℕ) → AllByRecursion IsRecord list → Outputs (NormalisesTo mode) n list output → KeptFrom n (length list) output
  kept_from mode n [] output small p = record { list = []; count = refl; each = tt; joins = p; written = λ m. p; alone = λ m o q. q ∙ sym p }
  kept_from mode n (octets ∷ list) output small p =
      let line = p.2 in
      let frame = line.0 in
      let c = line.1 in
      let rest = kept_from mode (n + 1) list p.1 small.1 p.3 in
      let first_is : p.0 ≡ record_of c = line.4 in
      record {
        list = c ∷ rest.list;
        count = ap suc rest.count;
        each = (written_fits frame octets c (accepted_spelled mode frame octets line.2) small.0 line.3, rest.each);
        joins = p.4 ∙ ap (λ (l : List ℕ). l ++ p.1) first_is ∙ ap (λ (l : List ℕ). record_of c ++ l) rest.joins;
        written = λ m. (p.0, p.1, (frame, c, canonical_accepted m frame c line.3, line.3, first_is), rest.written m, p.4);
        alone = λ m o q. q.4 ∙ ap (λ (l : List ℕ). l ++ q.1) (written_again m n frame c q.0 line.3 q.2 ∙ sym first_is) ∙ ap (λ (l : List ℕ). p.0 ++ l) (rest.alone m q.1 q.3) ∙ sym p.4;
      }

  pub kept : (mode : Mode) (list : List (List ℕ)) (output : List ℕ) → AllByRecursion IsRecord list → Outputs (NormalisesTo mode) 1 list output → IsKept (length list) output
  kept mode list output small p = let k = kept_from mode 1 list output small p in record { list = k.list; count = k.count; each = k.each; joins = k.joins; written = k.written; alone = k.alone }
