-- What two lists mean, and canonical octets of what was read.
use Rattle.std.specs.Prelude.{◌≡◌, ◌≢◌, ◌↔◌, ℕ, Option, Some, None, MatchOption, List, Result, Ok, Err, IfOk, IfErr}
use Rattle.std.proofs.Common.{sym, ◌∙◌, subst}
use Rattle.bac_tag.specs.declared.refusals.Refusal.{Refusal}
use Rattle.bac_tag.specs.declared.refusals.Why.TheVariants.{OutOfMemory}
use Rattle.bac_tag.specs.Spelling.{IsCanonical, IsLeast, IsWholeRefusal, HasMark}
use Rattle.bac_tag.specs.Laws.Spelling.{IsLeast-one, unmarked_least}
use Rattle.bac_productions.specs.Productions.{IsMarked}
use Rattle.bac_npdu_parts.specs.Decoded.{IsFrameChecked, IsReasoned}
use Rattle.bac_npdu_parts.specs.Frames.{FrameValue, SpellsFrame}
use Rattle.bac_npdu.specs.Meanings.{MeanTheSame, IsNormalOf}

-- octets without a mark are their own canonical octets
pub normal_itself : (f : FrameValue) (b : List ℕ) (mark : Option ℕ) → mark ≡ None → SpellsFrame f b → HasMark (SpellsFrame f) b mark → IsNormalOf b b
normal_itself f b None e s h = (f, s, subst (IsLeast (SpellsFrame f)) (sym h.is_mark) h.is_least)
normal_itself f b (Some place) e s h = absurd (let i : Some place ≡ None = e in cc)

-- the octets that are compared: those that were written, or those of the side
pub normal_compared : {V : Type 0} (written : Option V) (items : V → List ℕ) (b c : List ℕ) → MatchOption written (IsNormalOf b b) (λ new. IsNormalOf b (items new)) → MatchOption written (c ≡ b) (λ new. c ≡ items new) → IsNormalOf b c
normal_compared None items b c n e = subst (IsNormalOf b) (sym e) n
normal_compared (Some new) items b c n e = subst (IsNormalOf b) (sym e) n

module _ (frames : (f g : FrameValue) (b : List ℕ) → SpellsFrame f b → SpellsFrame g b → f ≡ g) where
  -- canonical octets of both sides are equal exactly where the sides mean the same
  pub same_told : (x y : FrameValue) (l r b c : List ℕ) → SpellsFrame x l → SpellsFrame y r → IsLeast (SpellsFrame x) b → IsLeast (SpellsFrame y) c → (b ≡ c) ↔ MeanTheSame l r
  same_told x y l r b c p q s t = (
    λ e. let same = frames x y c (subst (SpellsFrame x) e s.member) t.member in (x, p, subst (λ (f : FrameValue). SpellsFrame f r) (sym same) q),
    λ m. let same = frames x m.0 l p m.1 ∙ frames m.0 y r m.2 q in IsLeast-one (SpellsFrame y) b c (subst (λ (f : FrameValue). IsLeast (SpellsFrame f) b) same s) t,
  )

  pub meaning_told : (b c d e : List ℕ) → IsNormalOf b d → IsNormalOf c e → MeanTheSame b c ↔ (d ≡ e)
  meaning_told b c d e p q = let told = same_told p.0 q.0 b c d e p.1 q.1 p.2 q.2 in (told.1, told.0)

  -- canonical octets of canonical octets are the same
  pub normal_once : (b c d : List ℕ) → IsNormalOf b c → IsNormalOf c d → c ≡ d
  normal_once b c d p q = let same = frames p.0 q.0 c p.2.member q.1 in IsLeast-one (SpellsFrame q.0) c d (subst (λ (f : FrameValue). IsLeast (SpellsFrame f) c) same p.2) q.2

-- ---- a frame that is checked

pub checked_found : (b : List ℕ) (r : Result (Option ℕ) Refusal) → IsFrameChecked b r → IfOk r (IsMarked SpellsFrame b)
checked_found b (Ok mark) h = h
checked_found b (Err e) h = tt

pub checked_refused : (b : List ℕ) (r : Result (Option ℕ) Refusal) → IsFrameChecked b r → IfErr r (IsWholeRefusal SpellsFrame b)
checked_refused b (Ok mark) h = tt
checked_refused b (Err e) (h, other) = h.refused other

pub checked_memory : (b : List ℕ) (r : Result (Option ℕ) Refusal) → IsFrameChecked b r → IfErr r (λ e. e.why ≢ OutOfMemory)
checked_memory b (Ok mark) h = tt
checked_memory b (Err e) (h, other) = other

pub checked_reasons : (b : List ℕ) (r : Result (Option ℕ) Refusal) → IsFrameChecked b r → IfErr r (IsReasoned b)
checked_reasons b (Ok mark) h = tt
checked_reasons b (Err e) (h, other) = h.reasoned

-- octets without a mark are canonical
pub unmarked_canonical : (b : List ℕ) (m : Option ℕ) → m ≡ None → IsMarked SpellsFrame b m → IsCanonical SpellsFrame b
unmarked_canonical b m e h = (h.value, unmarked_least m e h.marked)
