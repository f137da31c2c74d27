-- What the reader's steps tell.
use Rattle.std.proofs.Common.{◌≡◌, ℕ, ◌+◌, ◌<◌, ◌≤◌, Bool, true, false, List, [], ◌∷◌, ◌++◌, take, drop, length, refl, sym, ◌∙◌, ap, subst, inl, inr, arith, append_assoc, length-drop, take-add, take-append-drop, add_assoc}
use Rattle.std.specs.Prelude.{IsTrue, ◌↔◌, Some, Result, Ok, Err, OnOk}
use Rattle.std.specs.Result.{is_err}
use Rattle.bac_tag.specs.declared.refusals.Refusal.{Refusal}
use Rattle.bac_tag.specs.declared.heads.TagHead.{TagHead}
use Rattle.bac_tag.specs.declared.heads.TagHead.TheVariants.{App, AppBool, Ctx, Open, Close}
use Rattle.bac_tag.specs.declared.expecting.Expected.TheVariants as expected
use Rattle.bac_tag.specs.Spelling.{IsViable, IsRefusal, Takes, JoinedBy, Joins}
use Rattle.bac_tag.specs.Laws.Spelling.{refused_first, refused_alike}
use Rattle.bac_tag.specs.Heads.{Heads}
use Rattle.bac_tag.specs.Expected.{ExpectedHeads}
use Rattle.bac_tag.proofs.WritingLemmas.{some_least}
use Rattle.bac_data.specs.OpenValue.{Elements, none, depth}
use Rattle.bac_data.specs.Spells.{SpellsAll, SpellsOpen}
use Rattle.bac_data.specs.Events.{Event, application, contextual, opening, closing, events, Opens, NextIn, SpellsEvent, SpellsEvents, SpellsNext}
use Rattle.bac_data.specs.Reading.{MayStand, SpellsStanding}
use Rattle.bac_data.specs.Building.{HasOpen, IsPlace, MayFollow, closing_number}
use Rattle.bac_data.proofs.EventLemmas.{joins, one_event, SpellsEvents-append, spells_whole}
use Rattle.bac_data.proofs.OpenLemmas.{what_follows}
use Rattle.bac_data.proofs.BalancedLemmas.{depth-opens}
use Rattle.bac_data.proofs.ViableLemmas.{goes_on, stuck, next_steps}

-- ---- the opening tag

Behind : ℕ → TagHead → Elements → List ℕ → Type 0
Behind n head v b = Joins (SpellsAll v) (Heads (Close n)) b × (depth v ≤ 32)

close_of : (n : ℕ) → n ≤ 254 → (b : List ℕ) × Heads (Close n) b
close_of n h = let l = some_least (Close n) h tt in (l.0, l.1.member)

abbrev Opening : ℕ → TagHead → List ℕ → Type 0
Opening n = ExpectedHeads (expected.Open (Some n))

opening_follow : (n : ℕ) → n ≤ 254 → (head : TagHead) (b : List ℕ) → Opening n head b → (v : Elements) × (d : List ℕ) × Behind n head v d
unfolding Behind
opening_follow n small head b h = let (d, c) = close_of n small in (none, d, (joins [] d refl c refl, omega arith))

opening_to : (n : ℕ) (x : TagHead × Elements) (b : List ℕ) → JoinedBy (Opening n) (Behind n) x b → (v : Elements) × SpellsOpen 32 n v b
unfolding Behind
opening_to n (Open m, v) b j = (v, record { enclosed = joins j.front j.back (subst (λ (k : ℕ). Heads (Open k) j.front) j.first.fits j.first.spelled) j.second.0 j.octets; nested = j.second.1 })
opening_to n (App m len, v) b j = absurd j.first.fits
opening_to n (AppBool bit, v) b j = absurd j.first.fits
opening_to n (Ctx m len, v) b j = absurd j.first.fits
opening_to n (Close m, v) b j = absurd j.first.fits

opening_from : (n : ℕ) (v : Elements) (b : List ℕ) → SpellsOpen 32 n v b → (x : TagHead × Elements) × JoinedBy (Opening n) (Behind n) x b
unfolding Behind
opening_from n v b p = ((Open n, v), record { front = p.enclosed.front; back = p.enclosed.back; first = record { fits = refl; spelled = p.enclosed.first }; second = (p.enclosed.second, p.nested); octets = p.enclosed.octets })

-- what is refused in the opening tag
pub refused_opening : (n : ℕ) (input : List ℕ) (r : Refusal) → n ≤ 254 → IsRefusal (Opening n) input r → IsRefusal (SpellsOpen 32 n) input r
refused_opening n input r small h = refused_alike (JoinedBy (Opening n) (Behind n)) (SpellsOpen 32 n) input r (opening_to n) (opening_from n) (refused_first (Opening n) (Behind n) input r (opening_follow n small) h)

-- ---- what has been read: the events so far spell what was taken

pub record HasRead (n : ℕ) (input : List ℕ) (place : ℕ) (es : List Event) : Type 0 where
  pub within : place ≤ length input
  pub spelled : SpellsEvents (opening n ∷ es) (take place input)

pub opening_is : (n : ℕ) (head : TagHead) (b : List ℕ) → Opening n head b → Heads (Open n) b
opening_is n (Open m) b h = subst (λ (k : ℕ). Heads (Open k) b) h.fits h.spelled
opening_is n (App m len) b h = absurd h.fits
opening_is n (AppBool bit) b h = absurd h.fits
opening_is n (Ctx m len) b h = absurd h.fits
opening_is n (Close m) b h = absurd h.fits

pub has_read_more : (n : ℕ) (input : List ℕ) (place taken : ℕ) (es fs : List Event) (e : Event) → HasRead n input place es → taken ≤ length (drop place input) → SpellsEvent e (take taken (drop place input)) → fs ≡ es ++ e ∷ []
    → HasRead n input (place + taken) fs
has_read_more n input place taken es fs e h room p i = record {
  within = omega (arith, h.within, length-drop place input);
  spelled = rw (i, take-add place taken input) (SpellsEvents-append (opening n ∷ es) (e ∷ []) (take place input) (take taken (drop place input)) h.spelled (one_event e (take taken (drop place input)) p));
}

-- ---- what may stand next

pub next_of_standing : (n : ℕ) (s : List ℕ) (room : Bool) (last : ℕ) (e : Event) → (IsTrue room ↔ (length s < 32)) → last ≡ closing_number n s → MayStand room last e → NextIn 32 n s e
next_of_standing n s room last (application prim) r l h = tt
next_of_standing n s room last (contextual m octets) r l h = tt
next_of_standing n s room last (opening m) r l h = r.0 h
next_of_standing n [] room last (closing m) r l h = h ∙ l
next_of_standing n (k ∷ s) room last (closing m) r l h = h ∙ l

standing_of_next : (n : ℕ) (s : List ℕ) (room : Bool) (last : ℕ) (e : Event) → (IsTrue room ↔ (length s < 32)) → last ≡ closing_number n s → NextIn 32 n s e → MayStand room last e
standing_of_next n s room last (application prim) r l h = tt
standing_of_next n s room last (contextual m octets) r l h = tt
standing_of_next n s room last (opening m) r l h = r.1 h
standing_of_next n [] room last (closing m) r l h = h ∙ sym l
standing_of_next n (k ∷ s) room last (closing m) r l h = h ∙ sym l

-- ---- what is refused behind the events so far

module _ (n : ℕ) (input : List ℕ) (place : ℕ) (es : List Event) (s : List ℕ) (o : Opens 32 [] es s) (h : HasRead n input place es) where
  cut : take place input ++ drop place input ≡ input
  cut = take-append-drop place input

  pub refused_next : (r : Refusal) → IsRefusal (SpellsNext 32 n s) (drop place input) r → IsRefusal (SpellsOpen 32 n) input (record { place = place + r.place; why = r.why })
  refused_next r f = record {
    none = λ v b rest e p.
        let g = what_follows 32 n v es s (take place input) (drop place input) b rest o h.spelled p (cut ∙ e) in
        f.none g.event g.front g.rest g.octets (record { next = g.next; spelled = g.spelled });
    furthest = record {
      within = omega (arith, h.within, f.furthest.within, length-drop place input);
      begins = subst (IsViable (SpellsOpen 32 n)) (sym (take-add place r.place input)) (goes_on 32 n es s (take place input) (take r.place (drop place input)) o h.spelled f.furthest.begins);
      ends = λ lt v.
          let past : take (place + r.place + 1) input ≡ take place input ++ take (r.place + 1) (drop place input) = ap (λ (k : ℕ). take k input) (add_assoc place r.place 1) ∙ take-add place (r.place + 1) input in
          stuck 32 n es s (take place input) (take (r.place + 1) (drop place input)) o h.spelled
          (f.furthest.ends (omega (arith, length-drop place input)))
          (λ e b rest i p. f.none e b (rest ++ drop (r.place + 1) (drop place input))
          (sym (take-append-drop (r.place + 1) (drop place input)) ∙ ap (λ (l : List ℕ). l ++ drop (r.place + 1) (drop place input)) i ∙ append_assoc b rest (drop (r.place + 1) (drop place input))) p)
          (subst (IsViable (SpellsOpen 32 n)) past v);
    };
    short = (λ w. omega (arith, f.short.0 w, h.within, length-drop place input), λ e. f.short.1 (omega (arith, e, h.within, length-drop place input)));
  }

pub refused_behind_events : (n : ℕ) (input : List ℕ) (place : ℕ) (es : List Event) (room : Bool) (last : ℕ) (r : Refusal) → HasRead n input place es → IsPlace 32 n es room last → IsRefusal (SpellsStanding room last) (drop place input) r
    → IsRefusal (SpellsOpen 32 n) input (record { place = place + r.place; why = r.why })
refused_behind_events n input place es room last r h (s, o, may, l) f =
    refused_next n input place es s o h r
    (refused_alike (SpellsStanding room last) (SpellsNext 32 n s) (drop place input) r
    (λ e b p. (e, record { next = next_of_standing n s room last e may l p.stands; spelled = p.spelled }))
    (λ e b p. (e, record { stands = standing_of_next n s room last e may l p.next; spelled = p.spelled })) f)

-- ---- the step, and the end

pub may_follow : (n : ℕ) (es : List Event) (room : Bool) (last : ℕ) (e : Event) → IsPlace 32 n es room last → MayStand room last e → (HasOpen 32 es 0 → e ≡ closing n → ⊥) → MayFollow 32 es e
may_follow n es room last e (s, o, may, l) h other =
    elim (next_steps 32 n s e (next_of_standing n s room last e may l h)) [
      | inl (t, step) ↦ (s, t, o, step)
      | inr (empty, is) ↦ absurd (other (s, o, ap length empty) is)
    ]

none_open : (es : List Event) → HasOpen 32 es 0 → Opens 32 [] es []
none_open es ([], o, e) = o
none_open es (k ∷ s, o, e) = absurd (omega arith)

pub value_read : (n : ℕ) (input : List ℕ) (place taken : ℕ) (es : List Event) (v : Elements) (e : Event) → HasRead n input place es → taken ≤ length (drop place input) → SpellsEvent e (take taken (drop place input)) → e ≡ closing n → HasOpen 32 es 0
    → events v ≡ es → Takes (SpellsOpen 32 n) input (v, place + taken)
value_read n input place taken es v e h room p c emptied is =
    let d = depth-opens 32 v [] [] (omega arith) (subst (λ (es : List Event). Opens 32 [] es []) (sym is) (none_open es emptied)) in
    let all = has_read_more n input place taken es (events v ++ closing n ∷ []) e h room p (ap (λ (es : List Event). es ++ closing n ∷ []) is ∙ ap (λ (e : Event). es ++ e ∷ []) (sym c)) in
    record { within = all.within; spelled = spells_whole 32 n v (take (place + taken) input) (omega (arith, d)) all.spelled }

-- what holds where a call is Ok, behind a test that it is
pub where_ok : {T E : Type 0} {P : Type 0} (r : Result T E) (b : Bool) → b ≡ is_err r → b ≡ false → OnOk r P → P
where_ok (Ok x) b e f h = h
where_ok (Err x) b e f h = absurd (let i : true ≡ false = sym e ∙ f in cc)
