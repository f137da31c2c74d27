-- Three parts, one after the other.
use Rattle.std.specs.Prelude.{ℕ, List, ◌++◌, refl}
use Rattle.std.proofs.Common.{sym, ◌∙◌, ap, append_assoc}
use Rattle.bac_tag.specs.Spelling.{Joins}

-- it is no matter which two of them are joined first
pub joined_first : {P Q R : List ℕ → Type 0} {b : List ℕ} → Joins P (Joins Q R) b → Joins (Joins P Q) R b
joined_first s = record {
  front = s.front ++ s.second.front;
  back = s.second.back;
  first = record { front = s.front; back = s.second.front; first = s.first; second = s.second.first; octets = refl };
  second = s.second.second;
  octets = s.octets ∙ ap (λ (l : List ℕ). s.front ++ l) s.second.octets ∙ sym (append_assoc s.front s.second.front s.second.back);
}

pub joined_last : {P Q R : List ℕ → Type 0} {b : List ℕ} → Joins (Joins P Q) R b → Joins P (Joins Q R) b
joined_last s = record {
  front = s.first.front;
  back = s.first.back ++ s.back;
  first = s.first.first;
  second = record { front = s.first.back; back = s.back; first = s.first.second; second = s.second; octets = refl };
  octets = s.octets ∙ ap (λ (l : List ℕ). l ++ s.back) s.first.octets ∙ append_assoc s.first.front s.first.back s.back;
}
