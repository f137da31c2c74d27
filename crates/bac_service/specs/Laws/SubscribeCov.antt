-- SubscribeCOV is its fields: a Boolean is the bit in it.
use Rattle.std.specs.Prelude.{◌≡◌, ◌↔◌, ℕ, Bool, Option, Some, None, List, refl}
use Rattle.std.specs.Option.{option_map}
use Rattle.std.proofs.Common.{ap, subst}
use Rattle.bac_tag.specs.Spelling.{Joins, Joined, AppendsLeast}
use Rattle.bac_value.specs.Identifier.{Identifier}
use Rattle.bac_value.specs.declared.types.boolean_value.Boolean.{Boolean}
use Rattle.bac_productions.specs.Contents.{UnsignedField, ObjectField, BooleanField}
use Rattle.bac_productions.specs.Productions.{Optional, IsRecordOf}
use Rattle.bac_productions.specs.Laws.Least.{appends_alike}
use Rattle.bac_service.specs.declared.service.subscribe_cov.SubscribeCov.{SubscribeCov}
use Rattle.bac_service.specs.SubscribeCov.{SpellsSubscribeCov}

-- a field of a Boolean and the bit in it
abbrev pub BitField : Boolean → List ℕ → Type 0
BitField value = BooleanField 2 value.0

abbrev pub bit_of : Boolean → Bool
bit_of value = value.0

abbrev pub boolean_of : Bool → Boolean
boolean_of bit = record { 0 = bit }

bits_back : (confirmed : Option Bool) → option_map bit_of (option_map boolean_of confirmed) ≡ confirmed
bits_back None = refl
bits_back (Some bit) = refl

bits_alike : (confirmed : Option Boolean) (b : List ℕ) → Optional BitField confirmed b ↔ Optional (BooleanField 2) (option_map bit_of confirmed) b
bits_alike None b = (λ s. s, λ s. s)
bits_alike (Some value) b = (λ s. s, λ s. s)

booleans_alike : (confirmed : Option Bool) (b : List ℕ) → Optional BitField (option_map boolean_of confirmed) b ↔ Optional (BooleanField 2) confirmed b
booleans_alike None b = (λ s. s, λ s. s)
booleans_alike (Some bit) b = (λ s. s, λ s. s)

-- the third of parts that stand one behind the other, replaced
third : {P Q S T R : List ℕ → Type 0} (b : List ℕ) → ((c : List ℕ) → S c → T c) → Joins P (Joins Q (Joins S R)) b → Joins P (Joins Q (Joins T R)) b
third b f j = record {
  front = j.front;
  back = j.back;
  first = j.first;
  second = record {
    front = j.second.front;
    back = j.second.back;
    first = j.second.first;
    second = record { front = j.second.second.front; back = j.second.second.back; first = f j.second.second.front j.second.second.first; second = j.second.second.second; octets = j.second.second.octets };
    octets = j.second.octets;
  };
  octets = j.octets;
}

abbrev pub SubscribeCovParts : ℕ × (Identifier × (Option Boolean × Option ℕ)) → List ℕ → Type 0
SubscribeCovParts = Joined (UnsignedField 0) (Joined (ObjectField 1) (Joined (Optional BitField) (Optional (UnsignedField 3))))

abbrev pub subscribe_cov_of : ℕ × (Identifier × (Option Boolean × Option ℕ)) → SubscribeCov
subscribe_cov_of p = record { process = p.0; object = p.1.0; confirmed = option_map bit_of p.1.1.0; lifetime = p.1.1.1 }

pub subscribe_cov_alike : (p : ℕ × (Identifier × (Option Boolean × Option ℕ))) (b : List ℕ) → SubscribeCovParts p b ↔ SpellsSubscribeCov (subscribe_cov_of p) b
subscribe_cov_alike p b = (third b (λ c. (bits_alike p.1.1.0 c).0), third b (λ c. (bits_alike p.1.1.0 c).1))

pub subscribe_cov_parts : IsRecordOf SubscribeCovParts SpellsSubscribeCov
subscribe_cov_parts = record {
  fields = λ r. (r.process, (r.object, (option_map boolean_of r.confirmed, r.lifetime)));
  of_fields = subscribe_cov_of;
  same = λ r. ap (λ (c : Option Bool). let s : SubscribeCov = record { process = r.process; object = r.object; confirmed = c; lifetime = r.lifetime } in s) (bits_back r.confirmed);
  split = λ r b. third b (λ c. (booleans_alike r.confirmed c).1);
  joined = λ p b. (subscribe_cov_alike p b).0;
}

-- its fields are appended with a Boolean for the bit
pub appends_subscribe_cov : {a b : List ℕ} (r : SubscribeCov) (confirmed : Option Boolean) → option_map bit_of confirmed ≡ r.confirmed
    → AppendsLeast (SubscribeCovParts (r.process, (r.object, (confirmed, r.lifetime)))) a b → AppendsLeast (SpellsSubscribeCov r) a b
appends_subscribe_cov {a} {b} r confirmed e written =
    subst (λ (c : Option Bool). AppendsLeast (SpellsSubscribeCov (record { process = r.process; object = r.object; confirmed = c; lifetime = r.lifetime })) a b) e
    (appends_alike (subscribe_cov_alike (r.process, (r.object, (confirmed, r.lifetime)))) written)
