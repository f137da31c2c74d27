-- APDUs with a service behind their head.
use Rattle.std.specs.Prelude.{◌≡◌, ℕ, ◌<◌, ◌≤◌, true, false, Result, Ok, Err, slice_index, List, [], ◌++◌, length, take, drop, Option, None, refl}
use Rattle.std.proofs.Common.{sym, ◌∙◌, ap, subst}
use Rattle.std.proofs.lemmas.List.{length-take-le}
use Rattle.bac_tag.specs.declared.refusals.Refusal.{Refusal}
use Rattle.bac_tag.specs.Octets.{IsMark, joined_mark}
use Rattle.bac_tag.specs.Refusals.{behind}
use Rattle.bac_tag.specs.Spelling.{HasMark, IsWholeRefusal}
use Rattle.bac_service.specs.declared.kind.Kind.{Kind}
use Rattle.bac_service.specs.ServiceTable.{production_of, is_small as is_small_service}
use Rattle.bac_service.specs.Services.{ServiceValue, opaque, SpellsService}
use Rattle.bac_tag.specs.HeadOctets.{least_head}
use Rattle.bac_apdu.specs.FirstOctet.{HasType, HasSeg, HasGoodWindow, seg_at}
use Rattle.bac_apdu.specs.Apdus.{ApduValue, head_of, SpellsServiceOf, SpellsBody, SpellsApdu}
use Rattle.bac_apdu.specs.Decoded.{small_of, IsApduChecked, IsBehindChecked, IsRefused, IsServiceBehind, IsRefusedBehind, IsVisited}
use Rattle.bac_tag.proofs.HeadOctetLemmas.{headed_mark}
use Rattle.bac_tag.proofs.BehindLemmas.{whole_body}
use Rattle.bac_tag.proofs.FilledLemmas.{filled, filled_taken, filled_split}
use Rattle.bac_apdu.proofs.ReasonLemmas.{reasoned, begins_small_as}

-- a service of a choice is one of its own choice
pub own_choice : (k : Kind) (c : ℕ) (s : ServiceValue) (b : List ℕ) → SpellsService true 32 k c s b → SpellsServiceOf k s b
own_choice k c s b h = subst (λ (n : ℕ). SpellsService true 32 k n s b) (sym h.choice_is) h

pub at_choice : (k : Kind) (c : ℕ) (s : ServiceValue) (b : List ℕ) → c ≡ s.choice → SpellsServiceOf k s b → SpellsService true 32 k c s b
at_choice k c s b e h = subst (λ (n : ℕ). SpellsService true 32 k n s b) (sym e) h

-- a service without a production and without octets
pub nothing_carried : (k : Kind) (c : ℕ) → c < 256 → None ≡ production_of true k c → SpellsServiceOf k (opaque k c []) []
nothing_carried k c fits e = record { kind_is = refl; choice_is = refl; choice_fits = fits; production_is = e; spelled = (refl, tt) }

module _ (k : Kind) (c : ℕ) (b least : List ℕ) (long : length least ≤ length b) where
  pub carrying_refused : (t g : ℕ) (r : Refusal)
      → ((s : ServiceValue) (d : List ℕ) → SpellsService true 32 k c s d → (x : ApduValue) × SpellsApdu x (filled (length least) b ++ d))
      → ((x : ApduValue) (d : List ℕ) → SpellsApdu x (filled (length least) b ++ d) → (s : ServiceValue) × SpellsService true 32 k c s d)
      → HasType t b → HasSeg g b → t < 8 → HasGoodWindow b → small_of t g b ≡ is_small_service k c → IsRefusedBehind k c b least r → IsRefused b r
  carrying_refused t g r every only h f low good small e = record {
    refused = λ w.
        let q = e.refused w in
        let n : length (filled (length least) b) ≡ length least = ap (λ (l : List ℕ). length l) (sym (filled_taken (length least) b long)) ∙ length-take-le (length least) b long in
        let all = whole_body SpellsApdu (SpellsService true 32 k c) (filled (length least) b) (drop (length least) b) q.0 every only q.1 in
        subst (λ (l : List ℕ). IsWholeRefusal SpellsApdu l r) (sym (filled_split (length least) b long))
        (subst (IsWholeRefusal SpellsApdu (filled (length least) b ++ drop (length least) b)) (ap (λ (m : ℕ). behind m q.0) n ∙ sym q.2) all);
    memory = λ w. let m = e.memory w in (m.0, begins_small_as t g b h f ∙ small ∙ m.1);
    reasoned = reasoned t b r h low good e.reason;
  }

  pub carrying_found : (v : ApduValue) (service : ServiceValue) (mark : Option ℕ)
      → ((d : List ℕ) → SpellsService true 32 k c service d → SpellsApdu v (filled (length least) b ++ d))
      → ((d : List ℕ) (m : Option ℕ) → HasMark (SpellsServiceOf k service) d m → HasMark (SpellsBody v) d m)
      → (service.choice ≡ c → least ≡ least_head (head_of v)) → IsServiceBehind k c b least service mark → SpellsApdu v b × HasMark (SpellsApdu v) b mark
  carrying_found v service mark every body same f =
      let n = length least in
      let s = every (drop n b) f.spelled in
      let own = body (drop n b) f.second (subst (λ (m : ℕ). HasMark (SpellsService true 32 k m service) (drop n b) f.second) (sym f.spelled.choice_is) f.of_service) in
      let size : length (filled n b) ≡ n = ap (λ (l : List ℕ). length l) (sym (filled_taken n b long)) ∙ length-take-le n b long in
      let head : IsMark (filled n b) (least_head (head_of v)) f.first = subst (λ (l : List ℕ). IsMark (filled n b) l f.first) (same f.spelled.choice_is) (subst (λ (l : List ℕ). IsMark l least f.first) (filled_taken n b long) f.of_head) in
      let m = headed_mark (head_of v) (SpellsBody v) f.first f.second (filled n b) (drop n b) s head own in
      let at : filled n b ++ drop n b ≡ b = sym (filled_split n b long) in
      let mark_at : HasMark (SpellsApdu v) (filled n b ++ drop n b) mark = subst (HasMark (SpellsApdu v) (filled n b ++ drop n b)) (ap (λ (k : ℕ). joined_mark f.first k f.second) size ∙ sym f.mark_is) m in
      (subst (SpellsApdu v) at s, subst (λ (l : List ℕ). HasMark (SpellsApdu v) l mark) at mark_at)

-- what was checked behind a head
pub checked_behind : (k : Kind) (c : ℕ) (b least : List ℕ) (r : Result (Option ℕ) Refusal) → IsBehindChecked k c b least r
    → ((s : ServiceValue) (m : Option ℕ) → IsServiceBehind k c b least s m → (v : ApduValue) × (SpellsApdu v b × HasMark (SpellsApdu v) b m)) → ((refusal : Refusal) → IsRefusedBehind k c b least refusal → IsRefused b refusal) → IsApduChecked b r
checked_behind k c b least (Ok mark) (s, f) found refused = let (v, p) = found s mark f in record { value = v; spelled = p.0; marked = p.1 }
checked_behind k c b least (Err refusal) (h, other) found refused = (refused refusal h, other)

-- what ends after its head needs no memory
pub checked_short : {P : Type 0} (t : ℕ) (b : List ℕ) (old new : P) (r : Result (Option ℕ) Refusal) → HasType t b → small_of t (seg_at (slice_index b 0)) b ≡ true → IsVisited (λ value mark old new made. made ≡ mark) b old new r → IsApduChecked b r
checked_short t b old new (Ok mark) h small made = record { value = made.value; spelled = made.spelled; marked = subst (HasMark (SpellsApdu made.value) b) (sym made.made_of) made.marked }
checked_short t b old new (Err refusal) h small (refused, same) = (refused, λ e. let i : true ≡ false = sym small ∙ sym (begins_small_as t (seg_at (slice_index b 0)) b h refl) ∙ (refused.memory e).1 in cc)
