use Rattle.std.proofs.Common.{◌≡◌, ℕ, ◌^◌, ◌*◌, ◌+◌, ◌/◌, ◌%◌, List, [], ◌∷◌, length, arith, sym, ◌∙◌, ap, refl}
use Rattle.std.specs.Int.{w32, to_be_bytes, from_be_bytes}
use Rattle.std.proofs.lemmas.Nat.{be_bytes_4, from_be_bytes-to_be_bytes_4, same_from_place}
use Rattle.bac_tag.specs.Octets.{IsOctets}
use Rattle.bac_tag.specs.Laws.Octets.{octets_below}
use Rattle.bac_value.specs.Primitives.{IsTheList}
use Rattle.bac_value.specs.Laws.AnyOctets.{AreAnyOctets}
use Rattle.bac_value.specs.Identifier.{Identifier, IsIdentifier, identifier_octets}

identifier_once : (a b : Identifier) → IsIdentifier a → IsIdentifier b → identifier_octets a ≡ identifier_octets b → a ≡ b
unfolding identifier_octets
identifier_once a b p q e =
    let same : a.kind * 2 ^ 22 + a.instance ≡ b.kind * 2 ^ 22 + b.instance =
    sym (from_be_bytes-to_be_bytes_4 (a.kind * 2 ^ 22 + a.instance) (omega arith)) ∙ ap (from_be_bytes w32) e ∙ from_be_bytes-to_be_bytes_4 (b.kind * 2 ^ 22 + b.instance) (omega arith) in
    let parts = same_from_place a.kind a.instance b.kind b.instance (2 ^ 22) p.1 q.1 same in
    let kinds : a.kind ≡ b.kind = parts.0 in
    let instances : a.instance ≡ b.instance = parts.1 in
    ap (λ (k : ℕ). let v : Identifier = record { kind = k; instance = a.instance } in v) kinds ∙ ap (λ (i : ℕ). let v : Identifier = record { kind = b.kind; instance = i } in v) instances

four_same : (a b c d n : ℕ) → IsOctets (a ∷ b ∷ c ∷ d ∷ []) → n ≡ ((a * 256 + b) * 256 + c) * 256 + d → a ∷ b ∷ c ∷ d ∷ [] ≡ to_be_bytes w32 n
four_same a b c d n p e = sym (be_bytes_4 (a ∷ b ∷ c ∷ d ∷ []) n refl (octets_below (a ∷ b ∷ c ∷ d ∷ []) p) (omega (arith, e)))

-- 10 bits of kind in front of 22 of instance
identifier_of : (octets : List ℕ) → IsOctets octets → length octets ≡ 4 → (id : Identifier) × IsTheList IsIdentifier identifier_octets id octets
unfolding identifier_octets
identifier_of (a ∷ b ∷ c ∷ d ∷ []) p sized = (
  record { kind = a * 4 + b / 64; instance = (b % 64 * 256 + c) * 256 + d },
  record {
    value_holds = (omega (arith, p.0, p.1.0, p.1.1.0, p.1.1.1.0), omega (arith, p.0, p.1.0, p.1.1.0, p.1.1.1.0));
    is = four_same a b c d ((a * 4 + b / 64) * 2 ^ 22 + ((b % 64 * 256 + c) * 256 + d)) p (omega arith);
  },
)
identifier_of octets p sized = absurd (omega arith)

pub identifier_any_octets : AreAnyOctets 4 4 IsIdentifier identifier_octets
unfolding identifier_octets
identifier_any_octets = record {
  once = identifier_once;
  sized = λ value h. (omega arith, omega arith);
  any = λ octets p least most. identifier_of octets p (omega arith);
}

-- a number is put together again of what stands above and below 22 bits
pub put_together : (n : ℕ) → n / 2 ^ 22 * 2 ^ 22 + n % 2 ^ 22 ≡ n
put_together n = omega arith
