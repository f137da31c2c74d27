-- Which services a kind and a choice have, and that no list spells two of them.
use Rattle.std.specs.Prelude.{◌≡◌, ◌↔◌, ℕ, ◌<◌, Bool, true, false, IsTrue, IsNone, Option, None, Some, List, [], ◌++◌, refl}
use Rattle.std.proofs.Common.{length, get_or, sym, ◌∙◌, ap, subst, lit<}
use Rattle.std.proofs.lemmas.List.Elements.{recursion_from_All, All-from_get_or}
use Rattle.bac_tag.specs.Octets.{IsOctets}
use Rattle.bac_tag.specs.Laws.Octets.{NoGreater-same}
use Rattle.bac_tag.specs.Spelling.{IsLeast, AppendsLeast}
use Rattle.bac_productions.specs.Laws.Least.{least_alike}
use Rattle.bac_productions.specs.Productions.{HasLeast}
use Rattle.bac_service.specs.declared.kind.Kind.{Kind}
use Rattle.bac_service.specs.ServiceTable.{ServiceProduction, cov_notification, production_of, is_small}
use Rattle.bac_service.specs.Services.{SaidBy, Said, ServiceValue, typed, opaque, notification_kind, notification_choice, SpellsBy, SpellsSaid, SpellsService, IsPlaced, IsServiceOf}

-- ---- the rows

pub no_row : (p : Option ServiceProduction) → IsNone p → None ≡ p
no_row None e = refl
no_row (Some p) e = cc

-- ---- what a kind and a choice name

-- a service of the production is spelled as what it says
pub spelled_as : (k : Kind) (c : ℕ) (p : ServiceProduction) (v : SaidBy p) → c < 256 → production_of true k c ≡ Some p → (b : List ℕ) → SpellsBy 32 p v b ↔ SpellsService true 32 k c (typed k c p v) b
spelled_as k c p v fits e b = (λ s. record { kind_is = refl; choice_is = refl; choice_fits = fits; production_is = sym e; spelled = s }, λ s. s.spelled)

-- what is said by a production is said by the same production under another name
pub said_alike : (q r : Option ServiceProduction) (e : q ≡ r) (s : Said q) (b : List ℕ) → SpellsSaid 32 q s b → (t : Said r) × SpellsSaid 32 r t b
said_alike q r e s b h = subst (λ (r : Option ServiceProduction). (t : Said r) × SpellsSaid 32 r t b) e (s, h)

pub serves : (k : Kind) (c : ℕ) (p : ServiceProduction) → c < 256 → production_of true k c ≡ Some p → IsServiceOf (SpellsBy 32 p) k c
serves k c p fits e = record {
  every = λ v. (typed k c p v, spelled_as k c p v fits e);
  only = λ x b h. said_alike x.production (Some p) (h.production_is ∙ e) x.said b h.spelled;
}

-- ---- two rows of one production, and five of another

pub notification_fits : (confirmed : Bool) → notification_choice confirmed < 256
notification_fits true = lit< tt
notification_fits false = lit< tt

pub notification_production : (confirmed : Bool) → production_of true (notification_kind confirmed) (notification_choice confirmed) ≡ Some cov_notification
notification_production true = refl
notification_production false = refl

pub notification_large : (confirmed : Bool) → is_small (notification_kind confirmed) (notification_choice confirmed) ≡ false
notification_large true = refl
notification_large false = refl

-- false is not true
pub never : {P : Type 0} → IsTrue false → P
never w = absurd (let e : true ≡ false = sym w in cc)

-- ---- the least spelling

pub appends_service : (x : ServiceValue) {a b : List ℕ} → IsPlaced x → AppendsLeast (SpellsSaid 32 x.production x.said) a b → AppendsLeast (SpellsService true 32 x.kind x.choice x) a b
appends_service x placed L =
    let alike : (c : List ℕ) → SpellsSaid 32 x.production x.said c ↔ SpellsService true 32 x.kind x.choice x c = λ c. (
      λ s. record { kind_is = refl; choice_is = refl; choice_fits = placed.choice_fits; production_is = placed.production_is; spelled = s },
      λ s. s.spelled,
    ) in
    record { more = L.more; is_least = least_alike alike L.is_least; new_is = L.new_is }

-- what stands behind nothing
pub appended_to_none : {S : List ℕ → Type 0} {a b : List ℕ} → a ≡ [] → AppendsLeast S a b → IsLeast S b
appended_to_none {S} e L = subst (IsLeast S) (sym (L.new_is ∙ ap (λ (l : List ℕ). l ++ L.more) e)) L.is_least

-- what the type of a vector says of its octets
pub octets_held : (octets : List ℕ) → ((k : ℕ) → k < length octets → get_or octets k 0 < 256) → IsOctets octets
octets_held octets small = recursion_from_All (λ x. x < 256) octets (All-from_get_or (λ x. x < 256) octets 0 small)

-- opaque octets are their own only spelling
pub appends_opaque : (octets : List ℕ) {a b : List ℕ} → IsOctets octets → b ≡ a ++ octets → AppendsLeast (SpellsSaid 32 None octets) a b
appends_opaque octets are e = record {
  more = octets;
  is_least = record { member = (refl, are); least = λ c s. NoGreater-same octets c (sym s.0) };
  new_is = e;
}

-- ---- one value

-- no list spells two values
abbrev pub SpellsOnce : {V : Type 0} → (V → List ℕ → Type 0) → Type 0
SpellsOnce {V} S = (v w : V) (b : List ℕ) → S v b → S w b → v ≡ w

module _ (once_by : (p : ServiceProduction) → SpellsOnce (SpellsBy 32 p)) where
  said_once : (p : Option ServiceProduction) → SpellsOnce (SpellsSaid 32 p)
  said_once (Some p) v w b s t = once_by p v w b s t
  said_once None v w b s t = sym s.0 ∙ t.0

  joined : (k : Kind) (c : ℕ) (p q : Option ServiceProduction) (e : p ≡ q) (v : Said p) (w : Said q) (b : List ℕ) → SpellsSaid 32 p v b → SpellsSaid 32 q w b
      → (let x : ServiceValue = record { kind = k; choice = c; production = p; said = v } in let y : ServiceValue = record { kind = k; choice = c; production = q; said = w } in x ≡ y)
  joined k c p q e v w b s t =
      subst (λ (q : Option ServiceProduction). (w : Said q) → SpellsSaid 32 q w b → (let x : ServiceValue = record { kind = k; choice = c; production = p; said = v } in let y : ServiceValue = record { kind = k; choice = c; production = q; said = w } in x ≡ y)) e
      (λ w t. ap (λ (v : Said p). let x : ServiceValue = record { kind = k; choice = c; production = p; said = v } in x) (said_once p v w b s t)) w t

  pub services_once : (k : Kind) (c : ℕ) (x y : ServiceValue) (b : List ℕ) → SpellsService true 32 k c x b → SpellsService true 32 k c y b → x ≡ y
  services_once k c x y b h j =
      ap (λ (k : Kind). let z : ServiceValue = record { kind = k; choice = x.choice; production = x.production; said = x.said } in z) (h.kind_is ∙ sym j.kind_is)
      ∙ ap (λ (c : ℕ). let z : ServiceValue = record { kind = y.kind; choice = c; production = x.production; said = x.said } in z) (h.choice_is ∙ sym j.choice_is)
      ∙ joined y.kind y.choice x.production y.production (h.production_is ∙ sym j.production_is) x.said y.said b h.spelled j.spelled

-- ---- only services are spelled

pub spelled_placed : (k : Kind) (c : ℕ) (x : ServiceValue) (b : List ℕ) → SpellsService true 32 k c x b → (x.kind ≡ k) × (x.choice ≡ c) × IsPlaced x
spelled_placed k c x b h = (
  h.kind_is,
  h.choice_is,
  record { choice_fits = rw h.choice_is h.choice_fits; production_is = h.production_is ∙ ap (λ (k : Kind). production_of true k c) (sym h.kind_is) ∙ ap (λ (c : ℕ). production_of true x.kind c) (sym h.choice_is) },
)

opaque_by : (k : Kind) (c : ℕ) (p : Option ServiceProduction) (s : Said p) (b : List ℕ) → IsNone p → SpellsSaid 32 p s b
    → (let x : ServiceValue = record { kind = k; choice = c; production = p; said = s } in (x ≡ opaque k c b) × IsOctets b)
opaque_by k c None s b e h = (ap (λ (l : List ℕ). opaque k c l) (sym h.0), subst IsOctets (sym h.0) h.1)
opaque_by k c (Some p) s b e h = absurd (let none : None ≡ Some p = no_row (Some p) e in cc)

pub spelled_opaque : (k : Kind) (c : ℕ) (x : ServiceValue) (b : List ℕ) → SpellsService true 32 k c x b → IsNone x.production → (x ≡ opaque k c b) × IsOctets b
spelled_opaque k c x b h none =
    let o = opaque_by x.kind x.choice x.production x.said b none h.spelled in
    (o.0 ∙ ap (λ (k : Kind). opaque k x.choice b) h.kind_is ∙ ap (λ (c : ℕ). opaque k c b) h.choice_is, o.1)

-- ---- each service that is spelled has a least spelling

module _ (least_by : (p : ServiceProduction) → HasLeast (SpellsBy 32 p)) where
  said_least : (p : Option ServiceProduction) → HasLeast (SpellsSaid 32 p)
  said_least (Some p) v b s = least_by p v b s
  said_least None v b s = (v, record { member = (refl, s.1); least = λ c t. NoGreater-same v c (sym t.0) })

  pub services_least : (k : Kind) (c : ℕ) → HasLeast (SpellsService true 32 k c)
  services_least k c x b h =
      let l = said_least x.production x.said b h.spelled in
      let alike : (d : List ℕ) → SpellsSaid 32 x.production x.said d ↔ SpellsService true 32 k c x d = λ d. (
        λ s. record { kind_is = h.kind_is; choice_is = h.choice_is; choice_fits = h.choice_fits; production_is = h.production_is; spelled = s },
        λ s. s.spelled,
      ) in
      (l.0, least_alike alike l.1)
