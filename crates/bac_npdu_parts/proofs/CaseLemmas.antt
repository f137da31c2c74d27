-- What begins a frame: by what its body is, and by its parts.
use Rattle.std.specs.Prelude.{◌≡◌, ◌↔◌, ℕ, Bool, true, false, List, [], ◌∷◌, ◌++◌, refl}
use Rattle.std.proofs.Common.{inl, inr, ◌⊎◌, sym, ◌∙◌, ap, subst, append-nil, arith}
use Rattle.bac_tag.specs.Spelling.{IsViable, IsPartway, JoinedBy}
use Rattle.bac_tag.specs.Laws.Spelling.{viable-JoinedBy}
use Rattle.bac_tag.proofs.BehindLemmas.{viable_as}
use Rattle.bac_apdu.specs.Apdus.{reject}
use Rattle.bac_npdu_parts.specs.Messages.{what_is_network_number}
use Rattle.bac_npdu_parts.specs.Control.{ControlValue, IsControl}
use Rattle.bac_npdu_parts.specs.Frames.{FrameValue, BodyValue, apdu, message, is_message, is_there, addresses_of, SpellsFrame}
use Rattle.bac_npdu_parts.specs.FrameHeads.{HeadValue, frame_with}
use Rattle.bac_npdu_parts.specs.HeadsRead.{SpellsBodyOf}
use Rattle.bac_npdu_parts.specs.Cases.{SpellsWithApdu, SpellsWithMessage, SpellsHead, SpellsAfter}

-- ---- by what its body is

abbrev head_of : FrameValue → HeadValue
head_of f = record { reply = f.reply; priority = f.priority; destination = f.destination; source = f.source }

with_body : (f : FrameValue) (x : BodyValue) → f.body ≡ x → f ≡ frame_with (head_of f) x
with_body f x e = ap (λ (y : BodyValue). frame_with (head_of f) y) e

pub by_case : (f : FrameValue) (x : BodyValue) → f.body ≡ x → (b rest : List ℕ) → SpellsFrame f (b ++ rest) → IsViable SpellsWithApdu b ⊎ IsViable SpellsWithMessage b
by_case f (apdu a) e b rest h = inl (record { value = (head_of f, a); rest = rest; spelled = subst (λ (g : FrameValue). SpellsFrame g (b ++ rest)) (with_body f (apdu a) e) h })
by_case f (message m) e b rest h = inr (record { value = (head_of f, m); rest = rest; spelled = subst (λ (g : FrameValue). SpellsFrame g (b ++ rest)) (with_body f (message m) e) h })

pub of_case : (b : List ℕ) → IsViable SpellsWithApdu b ⊎ IsViable SpellsWithMessage b → IsViable SpellsFrame b
of_case b (inl v) = viable_as SpellsWithApdu SpellsFrame b (λ p c s. (frame_with p.0 (apdu p.1), s)) v
of_case b (inr v) = viable_as SpellsWithMessage SpellsFrame b (λ p c s. (frame_with p.0 (message p.1), s)) v

-- ---- by its parts

-- after each head something can come
body_after : (m : Bool) → (x : BodyValue) × (d : List ℕ) × SpellsBodyOf m x d
body_after true = (message what_is_network_number, 18 ∷ [], (refl, (tt, ((refl, omega arith), refl))))
body_after false = (apdu (reject 0 0), 96 ∷ 0 ∷ 0 ∷ [], (refl, ((refl, tt, tt, tt, tt), ((refl, omega arith), ((refl, omega arith), refl)))))

-- a frame is its head, and what can come after it
apart : (f : FrameValue) (b : List ℕ) → SpellsFrame f b → (p : FrameValue × BodyValue) × JoinedBy SpellsHead SpellsAfter p b
apart f b h = (
  (f, f.body),
  record {
    front = 1 ∷ h.control ∷ (addresses_of f ++ []);
    back = h.body;
    first = record { control = h.control; body = []; octets_are = refl; is_control = h.is_control; are_octets = h.are_octets; has_address = h.has_address; is_body = refl };
    second = (refl, h.is_body);
    octets = h.octets_are ∙ ap (λ (l : List ℕ). 1 ∷ h.control ∷ (l ++ h.body)) (sym (append-nil (addresses_of f)));
  },
)

-- the same head before another body
abbrev other_body : FrameValue → BodyValue → FrameValue
other_body f x = frame_with (head_of f) x

abbrev control_says : FrameValue → Bool → ControlValue
control_says f m = record { message = m; destination = is_there f.destination; source = is_there f.source; reply = f.reply; priority = f.priority }

joined_with : (f : FrameValue) (x : BodyValue) (front back : List ℕ) → SpellsHead f front → SpellsAfter f x back → SpellsFrame (other_body f x) (front ++ back)
joined_with f x front back h k = record {
  control = h.control;
  body = back;
  octets_are = ap (λ (l : List ℕ). l ++ back) (h.octets_are ∙ ap (λ (l : List ℕ). 1 ∷ h.control ∷ l) (ap (λ (l : List ℕ). addresses_of f ++ l) h.is_body ∙ append-nil (addresses_of f)));
  is_control = subst (λ (m : Bool). IsControl (control_says f m) h.control) (sym k.0) h.is_control;
  are_octets = h.are_octets;
  has_address = h.has_address;
  is_body = k.1;
}

together : (p : FrameValue × BodyValue) (b : List ℕ) → JoinedBy SpellsHead SpellsAfter p b → (f : FrameValue) × SpellsFrame f b
together p b j = (other_body p.0 p.1, subst (SpellsFrame (other_body p.0 p.1)) (sym j.octets) (joined_with p.0 p.1 j.front j.back j.first j.second))

pub heads_in_turn : (b : List ℕ) → IsViable SpellsFrame b ↔ (IsViable SpellsHead b ⊎ IsPartway SpellsHead SpellsAfter b)
heads_in_turn b =
    let parts = viable-JoinedBy SpellsHead SpellsAfter (λ f c h. body_after (is_message f.body)) b in (
      λ v. parts.0 (viable_as SpellsFrame (JoinedBy SpellsHead SpellsAfter) b apart v),
      λ s. viable_as (JoinedBy SpellsHead SpellsAfter) SpellsFrame b together (parts.1 s),
    )
