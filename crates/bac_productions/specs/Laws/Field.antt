-- The laws of fields.
use Rattle.std.specs.Prelude.{◌≡◌, ◌↔◌, ◌⊎◌, ◌&&◌, not, nat_le, nat_eq, IsTrue, false, ℕ, ◌+◌, ◌^◌, ◌≤◌, ◌<◌, Option, None, Some, IfNone, IfSome, List, [], ◌∷◌, ◌++◌, length, take, drop, refl}
use Rattle.std.proofs.Common.{sym, ◌∙◌, ap, subst, inl, inr, arith, append_assoc, length-append, length-take, length-drop, take-append-drop}
use Rattle.std.proofs.lemmas.List.{append_cancel_left}
use Rattle.std.proofs.lemmas.Bool.{and_parts, not-true, both_ways, leb-true}
use Rattle.bac_tag.specs.declared.refusals.Refusal.{Refusal}
use Rattle.bac_tag.specs.declared.heads.TagHead.{TagHead}
use Rattle.bac_tag.specs.declared.heads.TagHead.TheVariants.{App, AppBool, Ctx, Open, Close}
use Rattle.bac_tag.specs.Octets.{NoGreater, FirstDifference, IsMark, joined_mark}
use Rattle.bac_tag.specs.Laws.Octets.{NoGreater-append, mark-append, mark_first, mark_by}
use Rattle.bac_tag.specs.declared.refusals.Why.TheVariants.{Short}
use Rattle.bac_tag.specs.Spelling.{EndsItself, IsLeast, IsFurthest, IsRefusal, Takes, JoinedBy, HasMark, AppendsLeast}
use Rattle.bac_tag.specs.Laws.Spelling.{refused_first, refused_second, refused_alike}
use Rattle.bac_tag.specs.Heads.{Heads}
use Rattle.bac_tag.specs.Laws.Heads.{heads_end}
use Rattle.bac_tag.specs.Expected.{Fits, ExpectedHeads}
use Rattle.bac_tag.proofs.WritingLemmas.{some_least, app_grows, ctx_grows}
use Rattle.bac_value.specs.Primitives.{IsBegun, OfSize}
use Rattle.bac_productions.specs.Leads.{Lead, application, context, BeginsIn}
use Rattle.bac_productions.specs.Laws.Lead.{head_begins}
use Rattle.bac_productions.specs.Fields.{heading, expected_heading, IsHeading, IsField}
use Rattle.bac_productions.specs.Laws.Longest.{take_add, leaf_longest}
use Rattle.bac_productions.specs.Productions.{Lawful, IsLongest, IsReach, IsInhabited}
use Rattle.bac_productions.specs.Laws.Production.{leaf_lawful}
use Rattle.bac_productions.specs.Laws.Refusal.{leaf_reach}

-- ---- heads of fields

-- an expected head is one of the field, with a length in the range
pub head_is : (c : Option ℕ) (app s l : ℕ) (head : TagHead) → Fits (expected_heading c app s l) head → (len : ℕ) × (head ≡ heading c app len) × (s ≤ len) × (len ≤ l)
head_is (Some n) app s l (Ctx m len) h = (len, ap (λ (k : ℕ). Ctx k len) h.0, h.1, h.2)
head_is (Some n) app s l (App m len) h = absurd h
head_is (Some n) app s l (AppBool bit) h = absurd h
head_is (Some n) app s l (Open m) h = absurd h
head_is (Some n) app s l (Close m) h = absurd h
head_is None app s l (App m len) h = (len, ap (λ (k : ℕ). App k len) h.0, h.1, h.2)
head_is None app s l (Ctx m len) h = absurd h
head_is None app s l (AppBool bit) h = absurd h
head_is None app s l (Open m) h = absurd h
head_is None app s l (Close m) h = absurd h

heading_fits : (c : Option ℕ) (app s l len : ℕ) → s ≤ len → len ≤ l → Fits (expected_heading c app s l) (heading c app len)
heading_fits (Some n) app s l len p q = (refl, p, q)
heading_fits None app s l len p q = (refl, p, q)

heading_length : (c : Option ℕ) (app m n : ℕ) → heading c app m ≡ heading c app n → m ≡ n
heading_length (Some k) app m n e = cc
heading_length None app m n e = cc

-- the least spelling of each head
pub heading_least : (c : Option ℕ) (app len : ℕ) → IsHeading c app → len < 2 ^ 32 → (b : List ℕ) × IsLeast (Heads (heading c app len)) b
heading_least (Some n) app len h small = some_least (Ctx n len) h small
heading_least None app len h small = some_least (App app len) h small

heading_grows : (c : Option ℕ) (app n m : ℕ) (a b : List ℕ) → n ≤ m → IsLeast (Heads (heading c app n)) a → Heads (heading c app m) b → length a ≤ length b
heading_grows (Some k) app n m a b le p q = ctx_grows k n m a b le p q
heading_grows None app n m a b le p q = app_grows app n m a b le p q

-- ---- what a field is

pub record HasLengths {V : Type 0} (contents : V → List ℕ → Type 0) (shortest longest : ℕ) : Type 0 where
  pub lengths : (value : V) (octets : List ℕ) → contents value octets → (shortest ≤ length octets) × (length octets ≤ longest)
  pub each_length : (size : ℕ) → shortest ≤ size → size ≤ longest → IsBegun contents [] size

-- a field ends itself
pub field_ends : {V : Type 0} (c : Option ℕ) (app : ℕ) (contents : V → List ℕ → Type 0) → ((v w : V) (b : List ℕ) → contents v b → contents w b → v ≡ w) → EndsItself (IsField (heading c app) contents)
field_ends c app contents once v w b d x y p q e =
    let parts : p.head ++ (p.body ++ x) ≡ q.head ++ (q.body ++ y) =
    sym (append_assoc p.head p.body x) ∙ ap (λ (l : List ℕ). l ++ x) (sym p.octets) ∙ e ∙ ap (λ (l : List ℕ). l ++ y) q.octets ∙ append_assoc q.head q.body y in
    let same = heads_end (heading c app (length p.body)) (heading c app (length q.body)) p.head q.head (p.body ++ x) (q.body ++ y) p.headed q.headed parts in
    let long : length p.body ≡ length q.body = heading_length c app (length p.body) (length q.body) same.1 in
    let rest : p.body ++ x ≡ q.body ++ y = append_cancel_left p.head (p.body ++ x) (q.body ++ y) (parts ∙ ap (λ (l : List ℕ). l ++ (q.body ++ y)) (sym same.0)) in
    let body : p.body ≡ q.body = same_front p.body q.body x y long rest in
    (p.octets ∙ ap (λ (l : List ℕ). l ++ p.body) same.0 ∙ ap (λ (l : List ℕ). q.head ++ l) body ∙ sym q.octets, once v w q.body (subst (contents v) body p.spelled) q.spelled)
  where
    same_front : (b c x y : List ℕ) → length b ≡ length c → b ++ x ≡ c ++ y → b ≡ c
    same_front [] [] x y n e = refl
    same_front [] (o ∷ c) x y n e = absurd (omega arith)
    same_front (o ∷ b) [] x y n e = absurd (omega arith)
    same_front (o ∷ b) (z ∷ c) x y n e =
        let h : o ≡ z = cc in
        let t : b ++ x ≡ c ++ y = cc in
        let m : length b ≡ length c = omega arith in
        let r : b ≡ c = same_front b c x y m t in cc

-- what a field begins with
abbrev pub lead_for : Option ℕ → ℕ → Lead
lead_for (Some n) app = context n
lead_for None app = application app

pub field_begins : {V : Type 0} (c : Option ℕ) (app : ℕ) (contents : V → List ℕ → Type 0) (v : V) (b : List ℕ) → IsField (heading c app) contents v b → BeginsIn (lead_for c app ∷ []) b
field_begins (Some n) app contents v b p = rw p.octets (head_begins (Ctx n (length p.body)) p.head p.body p.headed)
field_begins None app contents v b p = rw p.octets (head_begins (App app (length p.body)) p.head p.body p.headed)

-- ---- refusals

module _ {V : Type 0} (contents : V → List ℕ → Type 0) (c : Option ℕ) (app shortest longest : ℕ) (sizes : HasLengths contents shortest longest) where
  abbrev HeadOf : TagHead → List ℕ → Type 0
  HeadOf = ExpectedHeads (expected_heading c app shortest longest)

  -- contents behind a head have the length that it says
  Body : TagHead → V → List ℕ → Type 0
  Body head value b = (len : ℕ) × (head ≡ heading c app len) × OfSize contents len value b

  abbrev Parts : TagHead × V → List ℕ → Type 0
  Parts = JoinedBy HeadOf Body

  follow : (head : TagHead) (b : List ℕ) → HeadOf head b → (value : V) × (d : List ℕ) × Body head value d
  unfolding Body
  follow head b h =
      let i = head_is c app shortest longest head h.fits in
      let s = sizes.each_length i.0 i.2 i.3 in
      (s.value, s.rest, (i.0, i.1, record { spelled = s.spelled; sized = s.sized }))

  to : (x : TagHead × V) (b : List ℕ) → Parts x b → (value : V) × IsField (heading c app) contents value b
  unfolding Body
  to x b j =
      let s = j.second in (
        x.1,
        record {
          head = j.front;
          body = j.back;
          headed = subst (λ (h : TagHead). Heads h j.front) (s.1 ∙ ap (heading c app) (sym s.2.sized)) j.first.spelled;
          spelled = s.2.spelled;
          octets = j.octets;
        },
      )

  from : (value : V) (b : List ℕ) → IsField (heading c app) contents value b → (x : TagHead × V) × Parts x b
  unfolding Body
  from value b f =
      let range = sizes.lengths value f.body f.spelled in (
        (heading c app (length f.body), value),
        record {
          front = f.head;
          back = f.body;
          first = record { fits = heading_fits c app shortest longest (length f.body) range.0 range.1; spelled = f.headed };
          second = (length f.body, refl, record { spelled = f.spelled; sized = refl });
          octets = f.octets;
        },
      )

  head_ends : EndsItself HeadOf
  head_ends x y b d r s p q e = heads_end x y b d r s p.spelled q.spelled e

  -- what is refused in the head
  pub field_refused_head : (input : List ℕ) (r : Refusal) → IsRefusal HeadOf input r → IsRefusal (IsField (heading c app) contents) input r
  field_refused_head input r h = refused_alike Parts (IsField (heading c app) contents) input r to from (refused_first HeadOf Body input r follow h)

  -- what is refused in the contents
  pub field_refused_contents : (len : ℕ) (input : List ℕ) (start : ℕ) (r : Refusal) → start ≤ length input → HeadOf (heading c app len) (take start input) → IsRefusal (OfSize contents len) (drop start input) r
      → IsRefusal (IsField (heading c app) contents) input (record { place = start + r.place; why = r.why })
  unfolding Body
  field_refused_contents len input start r within h refused =
      let whole : take start input ++ drop start input ≡ input = take-append-drop start input in
      let long : length (take start input) ≡ start = omega (arith, length-take start input) in
      let body : IsRefusal (Body (heading c app len)) (drop start input) r =
      refused_alike (OfSize contents len) (Body (heading c app len)) (drop start input) r (λ value b s. (value, (len, refl, s)))
      (λ value b s. (value, subst (λ (n : ℕ). OfSize contents n value b) (sym (heading_length c app len s.0 s.1)) s.2)) refused in
      let parts = refused_second HeadOf Body (heading c app len) (take start input) (drop start input) r head_ends h body in
      let here : IsRefusal Parts input (record { place = start + r.place; why = r.why }) =
      subst (λ (n : ℕ). IsRefusal Parts input (record { place = n + r.place; why = r.why })) long
      (subst (λ (l : List ℕ). IsRefusal Parts l (record { place = length (take start input) + r.place; why = r.why })) whole parts) in
      refused_alike Parts (IsField (heading c app) contents) input (record { place = start + r.place; why = r.why }) to from here

  -- what is taken
  pub field_taken : (len : ℕ) (input : List ℕ) (start : ℕ) (value : V) → start ≤ length input → Heads (heading c app len) (take start input) → Takes (OfSize contents len) (drop start input) (value, len)
      → Takes (IsField (heading c app) contents) input (value, start + len)
  field_taken len input start value within headed t = record {
    within = omega (arith, t.within, length-drop start input);
    spelled = record {
      head = take start input;
      body = take len (drop start input);
      headed = subst (λ (n : ℕ). Heads (heading c app n) (take start input)) (sym t.spelled.sized) headed;
      spelled = t.spelled.spelled;
      octets = take_add start len input within;
    };
  }

-- ---- the least spelling, and the mark

module _ {V : Type 0} (contents : V → List ℕ → Type 0) (c : Option ℕ) (app : ℕ) (v : V) (w : List ℕ) (spelled : contents v w) (least : (b : List ℕ) → contents v b → NoGreater w b) where
  pub least_field : (head : List ℕ) → IsLeast (Heads (heading c app (length w))) head → IsLeast (IsField (heading c app) contents v) (head ++ w)
  least_field head h = record {
    member = record { head = head; body = w; headed = h.member; spelled = spelled; octets = refl };
    least = λ b f. subst (NoGreater (head ++ w)) (sym f.octets) (by_length f.head f.body f.headed (least f.body f.spelled));
  }
    where
      by_length : (front back : List ℕ) → Heads (heading c app (length back)) front → NoGreater w back → NoGreater (head ++ w) (front ++ back)
      by_length front back headed (inl shorter) = inl (omega (arith, heading_grows c app (length w) (length back) head front (omega arith) h headed, length-append head w, length-append front back))
      by_length front back headed (inr alike) = NoGreater-append head front w back (h.least front (subst (λ (n : ℕ). Heads (heading c app n) front) (sym alike.0) headed)) (inr alike)

  pub mark_field : (front body : List ℕ) (m o r : Option ℕ) → IsHeading c app → length w < 2 ^ 32 → Heads (heading c app (length body)) front → ((b : List ℕ) → IsLeast (Heads (heading c app (length w))) b → IsMark front b m)
      → IfNone o (body ≡ w) → IfSome o (FirstDifference body w) → r ≡ joined_mark m (length front) o → HasMark (IsField (heading c app) contents v) (front ++ body) r
  mark_field front body m o r fits small headed mark none some e =
      let l = heading_least c app (length w) fits small in
      rw e (record { least = l.0 ++ w; is_least = least_field l.0 l.1; is_mark = by_mark m l.0 (mark l.0 l.1) l.1.member })
    where
      by_mark : (m : Option ℕ) (head : List ℕ) → IsMark front head m → Heads (heading c app (length w)) head → IsMark (front ++ body) (head ++ w) (joined_mark m (length front) o)
      by_mark (Some place) head h p = mark_first front body head w place h
      by_mark None head h p =
          let same = heads_end (heading c app (length body)) (heading c app (length w)) front head [] [] headed p (ap (λ (l : List ℕ). l ++ []) h) in
          mark-append front body head w None o h (mark_by body w o (heading_length c app (length body) (length w) same.1) none some)

  -- where the head is the least of the length that the contents have, and the contents are the least
  pub least_mark : (front body : List ℕ) → IsLeast (Heads (heading c app (length body))) front → body ≡ w → HasMark (IsField (heading c app) contents v) (front ++ body) None
  least_mark front body h e = record {
    least = front ++ w;
    is_least = least_field front (subst (λ (l : List ℕ). IsLeast (Heads (heading c app (length l))) front) e h);
    is_mark = ap (λ (l : List ℕ). front ++ l) e;
  }

-- ---- a head that was read, by its length

length_is : (c : Option ℕ) (app m len : ℕ) (head : TagHead) → head ≡ heading c app m → ((n : ℕ) × (head ≡ Ctx n len)) ⊎ ((n : ℕ) × (head ≡ App n len)) → m ≡ len
length_is (Some k) app m len head e (inl f) = let g : Ctx k m ≡ Ctx f.0 len = sym e ∙ f.1 in cc
length_is (Some k) app m len head e (inr f) = absurd (let g : Ctx k m ≡ App f.0 len = sym e ∙ f.1 in cc)
length_is None app m len head e (inl f) = absurd (let g : App app m ≡ Ctx f.0 len = sym e ∙ f.1 in cc)
length_is None app m len head e (inr f) = let g : App app m ≡ App f.0 len = sym e ∙ f.1 in cc

pub head_named : (c : Option ℕ) (app s l len : ℕ) (head : TagHead) → Fits (expected_heading c app s l) head → ((n : ℕ) × (head ≡ Ctx n len)) ⊎ ((n : ℕ) × (head ≡ App n len)) → (head ≡ heading c app len) × (s ≤ len) × (len ≤ l)
head_named c app s l len head h e =
    let i = head_is c app s l head h in
    let same = length_is c app i.0 len head i.1 e in
    (i.1 ∙ ap (heading c app) same, omega (arith, same, i.2), omega (arith, same, i.3))

-- ---- what is appended

pub appends_field : {V : Type 0} (contents : V → List ℕ → Type 0) (c : Option ℕ) (app : ℕ) (v : V) (w head old mid new : List ℕ) → contents v w → ((b : List ℕ) → contents v b → NoGreater w b) → IsLeast (Heads (heading c app (length w))) head → mid ≡ old ++ head → new ≡ mid ++ w
    → AppendsLeast (IsField (heading c app) contents v) old new
appends_field contents c app v w head old mid new spelled least h e f = record {
  more = head ++ w;
  is_least = least_field contents c app v w spelled least head h;
  new_is = f ∙ ap (λ (l : List ℕ). l ++ w) e ∙ append_assoc old head w;
}

-- ---- a field as a part of a production

module _ {V : Type 0} (contents : V → List ℕ → Type 0) (c : Option ℕ) (app : ℕ) (once : (v w : V) (b : List ℕ) → contents v b → contents w b → v ≡ w) where
  pub field_lawful : Lawful (IsField (heading c app) contents) (lead_for c app ∷ []) [] false
  field_lawful = leaf_lawful (IsField (heading c app) contents) (lead_for c app ∷ []) (field_begins c app contents) (field_ends c app contents once)

  pub field_longest : (input : List ℕ) (v : V) (n : ℕ) → Takes (IsField (heading c app) contents) input (v, n) → IsLongest (IsField (heading c app) contents) input v n
  field_longest input v n t = leaf_longest (IsField (heading c app) contents) (field_ends c app contents once) input v n t

  pub field_reach : (input : List ℕ) (v : V) (n : ℕ) (r : Refusal) → Takes (IsField (heading c app) contents) input (v, n) → r.place ≡ n → ((r.why ≡ Short) ↔ (n ≡ length input)) → IsReach (IsField (heading c app) contents) input r
  field_reach input v n r t e short =
      let leaf = leaf_reach (IsField (heading c app) contents) (field_ends c app contents once) input v n r.why t short in
      record { furthest = subst (IsFurthest (IsField (heading c app) contents) input) (sym e) leaf.furthest; short = (λ w. e ∙ leaf.short.0 w, λ w. leaf.short.1 (sym e ∙ w)) }

pub field_inhabited : {V : Type 0} (contents : V → List ℕ → Type 0) (c : Option ℕ) (app shortest longest : ℕ) → HasLengths contents shortest longest → (shortest ≤ longest) × (longest ≤ 1048576) → IsHeading c app → IsInhabited (IsField (heading c app) contents)
field_inhabited contents c app shortest longest sizes range fits =
    let s = sizes.each_length shortest (omega arith) range.0 in
    let range' = sizes.lengths s.value s.rest s.spelled in
    let h = heading_least c app (length s.rest) fits (omega (arith, range'.1, range.1)) in
    record { value = s.value; octets = h.0 ++ s.rest; spelled = record { head = h.0; body = s.rest; headed = h.1.member; spelled = s.spelled; octets = refl } }

-- the test on application numbers
pub application_heading : (app : ℕ) → IsTrue (nat_le app 12 && not (nat_eq app 1)) → IsHeading None app
application_heading app h =
    let p = and_parts (nat_le app 12) (not (nat_eq app 1)) h in
    (leb-true app 12 p.0, λ e. both_ways (nat_eq app 1) (not-true (nat_eq app 1) p.1) (rw e refl))
