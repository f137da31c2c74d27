-- An event that may stand next is one of the heads that may stand there, and what stands under it.
use Rattle.std.proofs.Common.{◌≡◌, ℕ, ◌+◌, ◌<◌, ◌≤◌, Bool, true, false, List, [], ◌++◌, length, take, drop, replicate, refl, sym, ◌∙◌, ap, subst, ◌⊎◌, inl, inr, arith, length-append, length-take, length-drop, take-append-drop}
use Rattle.std.proofs.lemmas.List.{length-replicate, take_all}
use Rattle.bac_tag.specs.declared.refusals.Refusal.{Refusal}
use Rattle.bac_tag.specs.declared.refusals.Why.TheVariants.{Short, Depth}
use Rattle.bac_tag.specs.declared.heads.TagHead.{TagHead}
use Rattle.bac_tag.specs.declared.heads.TagHead.TheVariants.{App, AppBool, Ctx, Open, Close}
use Rattle.bac_tag.specs.Laws.Octets.{octets_filled, length-filled, zeros_to, octets_replicate}
use Rattle.bac_tag.specs.Octets.{IsOctets}
use Rattle.bac_tag.specs.Spelling.{EndsItself, IsViable, IsFurthest, IsRefusal, JoinedBy, Takes}
use Rattle.bac_tag.specs.Laws.Spelling.{refused_first, refused_second, refused_alike}
use Rattle.bac_tag.specs.Heads.{Heads}
use Rattle.bac_tag.specs.Laws.Heads.{heads_end}
use Rattle.bac_tag.specs.declared.expecting.Expected.{Expected}
use Rattle.bac_tag.specs.Expected.{FitsOne, HeadsOfOne}
use Rattle.bac_value.specs.declared.prim.PrimitiveValue.TheVariants.{Boolean}
use Rattle.bac_value.specs.Primitives.{OfSize}
use Rattle.bac_value.specs.PrimContents.{ContentsOf}
use Rattle.bac_data.specs.Events.{Event, application, contextual, opening, closing, SpellsEvent}
use Rattle.bac_data.specs.Reading.{MayStand, SpellsStanding, next_heads}
use Rattle.bac_data.specs.Under.{Under, HasContents}
use Rattle.bac_data.specs.Laws.Heads.{headed, event_headed}
use Rattle.bac_data.proofs.NextHeadLemmas.{application_head, context_head, opening_head, closing_head, application_fits, boolean_fits, context_fits, closing_fits, opening_fits}

module _ (room : Bool) (number : ℕ) where
  abbrev pub Head : TagHead → List ℕ → Type 0
  Head = HeadsOfOne (next_heads room number)

  abbrev pub Parts : TagHead × Event → List ℕ → Type 0
  Parts = JoinedBy Head Under

  stands : (head : TagHead) (e : Event) (c : List ℕ) → FitsOne (next_heads room number) head → Under head e c → MayStand room number e
  stands (App m len) e c f (prim, i, n, s, l) = subst (MayStand room number) (sym i) tt
  stands (AppBool bit) e c f (value, i, v, n) = subst (MayStand room number) (sym i) tt
  stands (Ctx m len) e c f (i, o, l) = subst (MayStand room number) (sym i) tt
  stands (Open m) e c f (i, h) = subst (MayStand room number) (sym i) (opening_head room number m f)
  stands (Close m) e c f (i, h) = subst (MayStand room number) (sym i) (closing_head room number m f)

  fits : (head : TagHead) (e : Event) (front c : List ℕ) → Heads head front → Under head e c → MayStand room number e → FitsOne (next_heads room number) head
  fits (App m len) e front c h (prim, i, n, s, l) may = application_fits room number m len prim c n h.valid.1 s l
  fits (AppBool bit) e front c h u may = boolean_fits room number bit
  fits (Ctx m len) e front c h (i, o, l) may = context_fits room number m len (omega (arith, o.1, l))
  fits (Open m) e front c h (i, u) may = opening_fits room number m (subst (MayStand room number) i may)
  fits (Close m) e front c h (i, u) may = closing_fits room number m (subst (MayStand room number) i may)

  to : (x : TagHead × Event) (b : List ℕ) → Parts x b → (e : Event) × SpellsStanding room number e b
  to x b j = (
    x.1,
    record {
      stands = stands x.0 x.1 j.back j.first.fits j.second;
      spelled = subst (SpellsEvent x.1) (sym j.octets) (event_headed x.0 x.1 j.front j.back j.first.spelled j.second);
    },
  )

  from : (e : Event) (b : List ℕ) → SpellsStanding room number e b → (x : TagHead × Event) × Parts x b
  from e b p =
      let h = headed e b p.spelled in (
        (h.head, e),
        record {
          front = h.front;
          back = h.contents;
          first = record { fits = fits h.head e h.front h.contents h.headed h.under p.stands; spelled = h.headed };
          second = h.under;
          octets = h.octets;
        },
      )

  follow : (head : TagHead) (b : List ℕ) → Head head b → (e : Event) × (c : List ℕ) × Under head e c
  follow (App m len) b h = let s = (application_head room number m len h.fits).0 in (application s.value, s.rest, (s.value, refl, s.spelled.0, s.spelled.1, s.sized))
  follow (AppBool bit) b h = (application (Boolean (record { 0 = bit })), [], (record { 0 = bit }, refl, refl, refl))
  follow (Ctx m len) b h =
      let long : length (replicate len 0) ≡ len = length-replicate {A = ℕ} len 0 in
      let most = context_head room number m len h.fits in
      (contextual m (replicate len 0), replicate len 0, (refl, (octets_replicate len, omega (arith, long, most)), long))
  follow (Open m) b h = (opening m, [], (refl, refl))
  follow (Close m) b h = (closing m, [], (refl, refl))

  head_ends : EndsItself Head
  head_ends x y b c r s p q e = heads_end x y b c r s p.spelled q.spelled e

  -- what is refused in the head
  pub refused_head : (input : List ℕ) (r : Refusal) → IsRefusal Head input r → IsRefusal (SpellsStanding room number) input r
  refused_head input r h = refused_alike Parts (SpellsStanding room number) input r to from (refused_first Head Under input r follow h)

  -- what is refused under the head
  pub refused_under : (head : TagHead) (input : List ℕ) (start : ℕ) (r : Refusal) → start ≤ length input → Head head (take start input) → IsRefusal (Under head) (drop start input) r
      → IsRefusal (SpellsStanding room number) input (record { place = start + r.place; why = r.why })
  refused_under head input start r within h refused =
      let whole : take start input ++ drop start input ≡ input = take-append-drop start input in
      let long : length (take start input) ≡ start = omega (arith, length-take start input) in
      let parts = refused_second Head Under head (take start input) (drop start input) r head_ends h refused in
      let here : IsRefusal Parts input (record { place = start + r.place; why = r.why }) =
      subst (λ (n : ℕ). IsRefusal Parts input (record { place = n + r.place; why = r.why })) long
      (subst (λ (l : List ℕ). IsRefusal Parts l (record { place = length (take start input) + r.place; why = r.why })) whole parts) in
      refused_alike Parts (SpellsStanding room number) input (record { place = start + r.place; why = r.why }) to from here

-- ---- contents under a head

pub refused_contents : (m len : ℕ) (rest : List ℕ) (r : Refusal) → IsRefusal (OfSize (ContentsOf m) len) rest r → IsRefusal (Under (App m len)) rest r
refused_contents m len rest r h =
    refused_alike (OfSize (ContentsOf m) len) (Under (App m len)) rest r
    (λ prim b s. (application prim, (prim, refl, s.spelled.0, s.spelled.1, s.sized)))
    (λ e b u. (u.0, record { spelled = (u.2, u.3); sized = u.4 })) h

pub short_context : (m len : ℕ) (rest : List ℕ) → IsOctets rest → length rest < len → len ≤ 1048576 → IsRefusal (Under (Ctx m len)) rest (record { place = length rest; why = Short })
short_context m len rest octets short most = record {
  none = λ e b more i u. absurd (omega (arith, ap length i, length-append b more, u.2));
  furthest = record {
    within = omega arith;
    begins =
        let all : take (length rest) rest ≡ rest = take_all (length rest) rest (omega arith) in
        let long : length (rest ++ zeros_to rest len) ≡ len = length-filled rest len (omega arith) in
        subst (IsViable (Under (Ctx m len))) (sym all) (record {
          value = contextual m (rest ++ zeros_to rest len);
          rest = zeros_to rest len;
          spelled = (refl, (octets_filled rest len octets, omega (arith, long)), long);
        });
    ends = λ lt v. absurd (omega arith);
  };
  short = (λ e. refl, λ e. refl);
}

-- ---- what is taken

pub taken_under : (room : Bool) (number : ℕ) (head : TagHead) (e : Event) (input : List ℕ) (start size : ℕ) → start ≤ length input → HeadsOfOne (next_heads room number) head (take start input) → size ≤ length (drop start input)
    → Under head e (take size (drop start input)) → take (start + size) input ≡ take start input ++ take size (drop start input) → Takes (SpellsStanding room number) input (e, start + size)
taken_under room number head e input start size within h room_for u parts = record {
  within = omega (arith, length-drop start input);
  spelled = record {
    stands = stands room number head e (take size (drop start input)) h.fits u;
    spelled = subst (SpellsEvent e) (sym parts) (event_headed head e (take start input) (take size (drop start input)) h.spelled u);
  };
}

-- a head that may stand next has contents
pub has_contents : (room : Bool) (number : ℕ) (head : TagHead) (b : List ℕ) → HeadsOfOne (next_heads room number) head b → HasContents head
has_contents room number (App m len) b h = let a = application_head room number m len h.fits in (a.1, h.spelled.valid.1, a.0)
has_contents room number (AppBool bit) b h = tt
has_contents room number (Ctx m len) b h = (h.spelled.valid, context_head room number m len h.fits)
has_contents room number (Open m) b h = h.spelled.valid
has_contents room number (Close m) b h = h.spelled.valid

pub refused_of : (head other : TagHead) (input : List ℕ) (r : Refusal) → head ≡ other → IsRefusal (Under other) input r → IsRefusal (Under head) input r
refused_of head other input r e h = subst (λ (k : TagHead). IsRefusal (Under k) input r) (sym e) h

-- the same refusal with the reason Depth
pub told_refused : {X : Type 0} (S : X → List ℕ → Type 0) (input : List ℕ) (r t : Refusal) → IsRefusal S input r → t.place ≡ r.place → (t.why ≡ r.why) ⊎ ((t.why ≡ Depth) × (r.place ≡ 0) × (0 < length input)) → IsRefusal S input t
told_refused S input r t h e (inl same) = record {
  none = h.none;
  furthest = subst (IsFurthest S input) (sym e) h.furthest;
  short = (λ s. e ∙ h.short.0 (sym same ∙ s), λ p. same ∙ h.short.1 (sym e ∙ p));
}
told_refused S input r t h e (inr (deep, first, some)) = record {
  none = h.none;
  furthest = subst (IsFurthest S input) (sym e) h.furthest;
  short = (λ s. absurd (let i : Depth ≡ Short = sym deep ∙ s in cc), λ p. absurd (omega (arith, e, first, p)));
}

-- the heads without that of an opening tag
pub some_heads : (room : Bool) (number count : ℕ) (heads : List Expected) → heads ≡ next_heads true number → ((room ≡ true) × (count ≡ 16)) ⊎ ((room ≡ false) × (count ≡ 15)) → take count heads ≡ next_heads room number
some_heads true number count heads e (inl (r, n)) = rw (e, n) refl
some_heads false number count heads e (inr (r, n)) = rw (e, n) refl
some_heads true number count heads e (inr (r, n)) = absurd (let i : true ≡ false = r in cc)
some_heads false number count heads e (inl (r, n)) = absurd (let i : false ≡ true = r in cc)
