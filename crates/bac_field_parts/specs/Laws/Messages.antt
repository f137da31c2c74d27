-- Messages, and what their parts say.
use Rattle.std.specs.Prelude.{◌≡◌, ◌↔◌, ℕ, List, [], ◌++◌, Bool, IsTrue, Option, refl}
use Rattle.std.proofs.Common.{sym, ◌∙◌, ap, subst, append_assoc}
use Rattle.std.proofs.lemmas.List.{append-nil}
use Rattle.bac_tag.specs.Spelling.{Joins}
use Rattle.bac_field_parts.specs.Symbols.{Symbol, Language, Lawful, IsStop, IsMessage}
use Rattle.bac_field_parts.specs.Laws.Languages.{lawful_alike, stop_alike}

module _ {V W : Type 0} (f : V → List Symbol) (g : W → List Symbol) (S : V → List ℕ → Type 0) (T : W → List ℕ → Type 0) (M : IsMessage f g S T) where
  to : (es : List Symbol) → Language g T tt es → Language f S tt es
  to es l = (M.of_parts l.0, record { octets = l.1.octets; spelled = (M.spelled l.0 l.1.octets).0 l.1.spelled; is_said = l.1.is_said ∙ sym (M.said l.0) })

  from : (es : List Symbol) → Language f S tt es → Language g T tt es
  from es l =
      let (w, same) = M.parts_of l.0 l.1.octets l.1.spelled in
      (w, record { octets = l.1.octets; spelled = (M.spelled w l.1.octets).1 (subst (λ (v : V). S v l.1.octets) (sym same) l.1.spelled); is_said = l.1.is_said ∙ ap f (sym same) ∙ M.said w })

  pub message_lawful : (leads : List (Option ℕ)) → Lawful (Language g T) leads → Lawful (Language f S) leads
  message_lawful leads l = lawful_alike (Language g T) (Language f S) to from leads l

  pub message_stopped : (es : List Symbol) (p : ℕ) → IsStop (Language g T) es p → IsStop (Language f S) es p
  message_stopped es p h = stop_alike (Language g T) (Language f S) to from es p h

pub message_sound : {V W : Type 0} {f : V → List Symbol} {g : W → List Symbol} {S : V → List ℕ → Type 0} {T : W → List ℕ → Type 0} {sound : Bool} (leads : List (Option ℕ)) → IsMessage f g S T → (IsTrue sound → Lawful (Language g T) leads) → IsTrue sound → Lawful (Language f S) leads
message_sound {f} {g} {S} {T} leads M laws h = message_lawful f g S T M leads (laws h)

-- ---- spellings one after another

-- nothing comes after the last part
pub last_part : {P : List ℕ → Type 0} (b : List ℕ) → Joins P (λ (l : List ℕ). l ≡ []) b ↔ P b
last_part {P} b = (
  λ j. subst P (sym (j.octets ∙ ap (λ (l : List ℕ). j.front ++ l) j.second ∙ append-nil j.front)) j.first,
  λ p. record { front = b; back = []; first = p; second = refl; octets = sym (append-nil b) },
)

pub second_alike : {P Q R : List ℕ → Type 0} → ((b : List ℕ) → Q b ↔ R b) → (b : List ℕ) → Joins P Q b ↔ Joins P R b
second_alike same b = (
  λ j. record { front = j.front; back = j.back; first = j.first; second = (same j.back).0 j.second; octets = j.octets },
  λ j. record { front = j.front; back = j.back; first = j.first; second = (same j.back).1 j.second; octets = j.octets },
)

abbrev pub Alike : (P Q : List ℕ → Type 0) → Type 0
Alike P Q = (b : List ℕ) → P b ↔ Q b

pub then_alike : {P Q R : List ℕ → Type 0} → Alike P Q → Alike Q R → Alike P R
then_alike first second b = (λ p. (second b).0 ((first b).0 p), λ r. (first b).1 ((second b).1 r))

-- two parts and a third
pub grouped_first : {P Q R : List ℕ → Type 0} → Alike (Joins P (Joins Q R)) (Joins (Joins P Q) R)
grouped_first b = (
  λ j. record {
    front = j.front ++ j.second.front;
    back = j.second.back;
    first = record { front = j.front; back = j.second.front; first = j.first; second = j.second.first; octets = refl };
    second = j.second.second;
    octets = j.octets ∙ ap (λ (l : List ℕ). j.front ++ l) j.second.octets ∙ sym (append_assoc j.front j.second.front j.second.back);
  },
  λ j. record {
    front = j.first.front;
    back = j.first.back ++ j.back;
    first = j.first.first;
    second = record { front = j.first.back; back = j.back; first = j.first.second; second = j.second; octets = refl };
    octets = j.octets ∙ ap (λ (l : List ℕ). l ++ j.back) j.first.octets ∙ append_assoc j.first.front j.first.back j.back;
  },
)

-- nothing comes before the first part
pub first_part : {P : List ℕ → Type 0} → Alike (Joins (λ (l : List ℕ). l ≡ []) P) P
first_part {P} b = (
  λ j. subst P (sym (j.octets ∙ ap (λ (l : List ℕ). l ++ j.back) j.first)) j.second,
  λ p. record { front = []; back = b; first = refl; second = p; octets = refl },
)

pub first_alike : {P Q R : List ℕ → Type 0} → Alike P Q → Alike (Joins P R) (Joins Q R)
first_alike same b = (
  λ j. record { front = j.front; back = j.back; first = (same j.front).0 j.first; second = j.second; octets = j.octets },
  λ j. record { front = j.front; back = j.back; first = (same j.front).1 j.first; second = j.second; octets = j.octets },
)
