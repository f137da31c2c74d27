-- What is held of one cut.
use Rattle.std.proofs.Common.{◌≡◌, ◌↔◌, ◌⊎◌, inl, inr, ◌+◌, ◌≤◌, ◌<◌, ℕ, zero, suc, Bool, true, false, not, cond, eqb, Option, Some, None, Ok, List, [], ◌∷◌, ◌++◌, length, take, drop, get_or, set, replicate, refl, sym, ap, ◌∙◌, subst, ◌&&◌, ◌||◌, arith, add-one}
use Rattle.std.specs.Prelude.{is_some}
use Rattle.std.specs.Option.{option_map}
use Rattle.std.specs.Str.{bytes_eq}
use Rattle.std.specs.List.{fold, list_any, AllByRecursion}
use Rattle.std.proofs.lemmas.Bool.{le-leb, eq-eqb, ne_eqb, cases_eq}
use Rattle.std.proofs.lemmas.List.{length-append, get_or-set_same, get_or-set_other, append-nil}
use Rattle.std.proofs.lemmas.Slice.Eq.{bytes_eq-Decides}
use Rattle.bac_segment.specs.declared.faults.Taken.TheVariants.{Kept, Complete}
use Rattle.bac_segment.specs.Deliveries.{Delivery}
use Rattle.bac_segment.specs.Tables.{Entry, Table, empty_table, is_last, joined, whole, with_segment}
use Rattle.bac_segment.specs.Taking.{Answer, answer, with_next, held, is_ended_below, is_held_above, same_entry, same_more}
use Rattle.bac_segment.specs.Pieces.{all_of, are_more}
use Rattle.bac_segment.specs.Cuts.{IsGood}
use Rattle.bac_segment.proofs.JudgeLemmas.{repeated, is_new}

-- the piece with this number is that, and others follow it or not
abbrev pub IsPiece : List (List ℕ) → ℕ → List ℕ → Bool → Type 0
IsPiece [] q piece more = ⊥
IsPiece (p ∷ ps) zero piece more = (piece ≡ p) × (more ≡ are_more ps)
IsPiece (p ∷ ps) (suc q) piece more = IsPiece ps q piece more

abbrev pub ArePiecesOf : List (List ℕ) → List Delivery → Type 0
ArePiecesOf ps l = AllByRecursion (λ s. IsPiece ps s.seq s.piece s.more) l

-- pieces that a message is cut into
pub record IsCut (pieces : List (List ℕ)) : Type 0 where
  pub some : 0 < length pieces
  pub numbers : length pieces ≤ 256
  pub octets : length (all_of pieces) ≤ 65535

-- a segment with this number is there
abbrev pub has_number : List Delivery → ℕ → Bool
has_number l q = list_any (λ s. eqb s.seq q) l

-- each segment of the cut is there
abbrev pub HasAll : List (List ℕ) → List Delivery → Type 0
HasAll pieces l = (q : ℕ) → q < length pieces → has_number l q ≡ true

-- each piece that is held is the one of the cut
abbrev pub Agrees : List (List ℕ) → Table → Type 0
Agrees [] m = list_any is_some m ≡ false
Agrees (p ∷ ps) [] = ⊥
Agrees (p ∷ ps) (None ∷ m) = Agrees ps m
Agrees (p ∷ ps) (Some e ∷ m) = (e.piece ≡ p) × (e.more ≡ are_more ps) × Agrees ps m

nothing_held : (n : ℕ) → list_any is_some (let m : Table = replicate n None in m) ≡ false
nothing_held zero = refl
nothing_held (suc n) = nothing_held n

agrees_nothing : (n : ℕ) (ps : List (List ℕ)) → length ps ≤ n → Agrees ps (replicate n None)
agrees_nothing n [] l = nothing_held n
agrees_nothing zero (p ∷ ps) l = absurd (omega arith)
agrees_nothing (suc n) (p ∷ ps) l = agrees_nothing n ps (omega arith)

same_at : (ps : List (List ℕ)) (m : Table) (q : ℕ) (x : List ℕ) (more : Bool) (e : Entry) → Agrees ps m → IsPiece ps q x more → get_or m q None ≡ Some e → (e.piece ≡ x) × (e.more ≡ more)
same_at [] m q x more e a i g = absurd i
same_at (p ∷ ps) [] q x more e a i g = absurd a
same_at (p ∷ ps) (None ∷ m) zero x more e a i g = absurd (let j : None ≡ Some e = g in cc)
same_at (p ∷ ps) (Some f ∷ m) zero x more e a i g = let j : f ≡ e = (let k : Some f ≡ Some e = g in cc) in (ap (λ (y : Entry). y.piece) (sym j) ∙ a.0 ∙ sym i.0, ap (λ (y : Entry). y.more) (sym j) ∙ a.1 ∙ sym i.1)
same_at (p ∷ ps) (None ∷ m) (suc q) x more e a i g = same_at ps m q x more e a i g
same_at (p ∷ ps) (Some f ∷ m) (suc q) x more e a i g = same_at ps m q x more e a.2 i g

no_early : (ps : List (List ℕ)) (m : Table) (more : Bool) → Agrees ps m → more ≡ are_more ps → (not more && list_any is_some m) ≡ false
no_early [] m more a i = ap (λ (b : Bool). not more && b) a ∙ ap (λ (b : Bool). not b && false) i
no_early (p ∷ ps) m more a i = ap (λ (b : Bool). not b && list_any is_some m) i

early_fits : (ps : List (List ℕ)) (m : Table) (q : ℕ) (x : List ℕ) (more : Bool) → Agrees ps m → IsPiece ps q x more → (not more && list_any is_some (drop (suc q) m)) ≡ false
early_fits [] m q x more a i = absurd i
early_fits (p ∷ ps) [] q x more a i = absurd a
early_fits (p ∷ ps) (None ∷ m) zero x more a i = no_early ps m more a i.1
early_fits (p ∷ ps) (Some f ∷ m) zero x more a i = no_early ps m more a.2 i.1
early_fits (p ∷ ps) (None ∷ m) (suc q) x more a i = early_fits ps m q x more a i
early_fits (p ∷ ps) (Some f ∷ m) (suc q) x more a i = early_fits ps m q x more a.2 i

has_more : (ps : List (List ℕ)) (q : ℕ) (x : List ℕ) (more : Bool) → IsPiece ps q x more → are_more ps ≡ true
has_more [] q x more i = absurd i
has_more (p ∷ ps) q x more i = refl

below_fits : (ps : List (List ℕ)) (m : Table) (q : ℕ) (x : List ℕ) (more : Bool) → Agrees ps m → IsPiece ps q x more → list_any is_last (take q m) ≡ false
below_fits ps m zero x more a i = refl
below_fits [] m (suc q) x more a i = absurd i
below_fits (p ∷ ps) [] (suc q) x more a i = absurd a
below_fits (p ∷ ps) (None ∷ m) (suc q) x more a i = below_fits ps m q x more a i
below_fits (p ∷ ps) (Some f ∷ m) (suc q) x more a i =
    ap (λ (b : Bool). not b || list_any is_last (take q m)) (a.1 ∙ has_more ps q x more i) ∙ below_fits ps m q x more a.2 i

number_fits : (ps : List (List ℕ)) (q : ℕ) (x : List ℕ) (more : Bool) → IsPiece ps q x more → (q < length ps) × (more ≡ true → suc q < length ps)
number_fits [] q x more i = absurd i
number_fits (p ∷ []) zero x more i = (omega arith, λ t. absurd (let j : true ≡ false = sym t ∙ i.1 in cc))
number_fits (p ∷ q ∷ ps) zero x more i = (omega arith, λ t. omega arith)
number_fits (p ∷ ps) (suc q) x more i = let rest = number_fits ps q x more i in (omega (arith, rest.0), λ t. let r = rest.1 t in omega (arith, r))

none_joined : (m : Table) → list_any is_some m ≡ false → length (joined m) ≡ 0
none_joined [] h = refl
none_joined (None ∷ m) h = none_joined m h
none_joined (Some e ∷ m) h = absurd (let i : true ≡ false = h in cc)

held_le : (ps : List (List ℕ)) (m : Table) → Agrees ps m → length (joined m) ≤ length (all_of ps)
held_le [] m a = omega (arith, none_joined m a)
held_le (p ∷ ps) [] a = absurd a
held_le (p ∷ ps) (None ∷ m) a = omega (arith, held_le ps m a, length-append p (all_of ps))
held_le (p ∷ ps) (Some e ∷ m) a = omega (arith, held_le ps m a.2, length-append p (all_of ps), length-append e.piece (joined m), ap (λ (o : List ℕ). length o) a.0)

room_fits : (ps : List (List ℕ)) (m : Table) (q : ℕ) (x : List ℕ) (more : Bool) → Agrees ps m → IsPiece ps q x more → get_or m q None ≡ None → length (joined m) + length x ≤ length (all_of ps)
room_fits [] m q x more a i g = absurd i
room_fits (p ∷ ps) [] q x more a i g = absurd a
room_fits (p ∷ ps) (None ∷ m) zero x more a i g = omega (arith, held_le ps m a, length-append p (all_of ps), ap (λ (o : List ℕ). length o) i.0)
room_fits (p ∷ ps) (Some f ∷ m) zero x more a i g = absurd (let j : Some f ≡ None = g in cc)
room_fits (p ∷ ps) (None ∷ m) (suc q) x more a i g = omega (arith, room_fits ps m q x more a i g, length-append p (all_of ps))
room_fits (p ∷ ps) (Some f ∷ m) (suc q) x more a i g = omega (arith, room_fits ps m q x more a.2 i g, length-append p (all_of ps), length-append f.piece (joined m), ap (λ (o : List ℕ). length o) a.0)

agrees_set : (ps : List (List ℕ)) (m : Table) (q : ℕ) (x : List ℕ) (more : Bool) → Agrees ps m → IsPiece ps q x more → Agrees ps (set m q (Some (record { piece = x; more = more })))
agrees_set [] m q x more a i = absurd i
agrees_set (p ∷ ps) [] q x more a i = absurd a
agrees_set (p ∷ ps) (None ∷ m) zero x more a i = (i.0, i.1, a)
agrees_set (p ∷ ps) (Some f ∷ m) zero x more a i = (i.0, i.1, a.2)
agrees_set (p ∷ ps) (None ∷ m) (suc q) x more a i = agrees_set ps m q x more a i
agrees_set (p ∷ ps) (Some f ∷ m) (suc q) x more a i = (a.0, a.1, agrees_set ps m q x more a.2 i)

within : (ps : List (List ℕ)) (m : Table) (q : ℕ) → Agrees ps m → q < length ps → q < length m
within [] m q a l = absurd (omega arith)
within (p ∷ ps) [] q a l = absurd a
within (p ∷ ps) (x ∷ m) zero a l = omega arith
within (p ∷ ps) (None ∷ m) (suc q) a l = let r = within ps m q a (omega arith) in omega (arith, r)
within (p ∷ ps) (Some e ∷ m) (suc q) a l = let r = within ps m q a.2 (omega arith) in omega (arith, r)

all_held : (ps : List (List ℕ)) (m : Table) → Agrees ps m → 0 < length ps → ((q : ℕ) → q < length ps → is_some (get_or m q None) ≡ true) → whole m ≡ Some (all_of ps)
all_held [] m a l h = absurd (omega arith)
all_held (p ∷ ps) [] a l h = absurd a
all_held (p ∷ ps) (None ∷ m) a l h = absurd (let i : false ≡ true = h 0 (omega arith) in cc)
all_held (p ∷ []) (Some e ∷ m) a l h = ap (λ (b : Bool). cond b (option_map (λ rest. e.piece ++ rest) (whole m)) (Some e.piece)) a.1 ∙ ap (λ (o : List ℕ). Some o) (a.0 ∙ sym (append-nil p))
all_held (p ∷ r ∷ ps) (Some e ∷ m) a l h =
    ap (λ (b : Bool). cond b (option_map (λ rest. e.piece ++ rest) (whole m)) (Some e.piece)) a.1
    ∙ ap (λ (o : Option (List ℕ)). option_map (λ rest. e.piece ++ rest) o) (all_held (r ∷ ps) m a.2 (omega arith) (λ q k. h (suc q) (omega arith)))
    ∙ ap (λ (o : List ℕ). Some (o ++ all_of (r ∷ ps))) a.0

missing : (ps : List (List ℕ)) (m : Table) (q : ℕ) → Agrees ps m → q < length ps → get_or m q None ≡ None → whole m ≡ None
missing [] m q a l g = absurd (omega arith)
missing (p ∷ ps) [] q a l g = absurd a
missing (p ∷ ps) (None ∷ m) q a l g = refl
missing (p ∷ ps) (Some e ∷ m) zero a l g = absurd (let j : Some e ≡ None = g in cc)
missing (p ∷ []) (Some e ∷ m) (suc q) a l g = absurd (omega arith)
missing (p ∷ r ∷ ps) (Some e ∷ m) (suc q) a l g =
    ap (λ (b : Bool). cond b (option_map (λ rest. e.piece ++ rest) (whole m)) (Some e.piece)) a.1
    ∙ ap (λ (o : Option (List ℕ)). option_map (λ rest. e.piece ++ rest) o) (missing (r ∷ ps) m q a.2 (omega arith) g)

-- all of the first n are held, or one is missing
looked : (m : Table) (n : ℕ) → ((q : ℕ) → q < n → is_some (get_or m q None) ≡ true) ⊎ ((q : ℕ) × (q < n) × (get_or m q None ≡ None))
looked m zero = inl (λ q l. absurd (omega arith))
looked m (suc n) = both (get_or m n None) refl (looked m n)
  where
    both : (o : Option Entry) → get_or m n None ≡ o → ((q : ℕ) → q < n → is_some (get_or m q None) ≡ true) ⊎ ((q : ℕ) × (q < n) × (get_or m q None ≡ None)) → ((q : ℕ) → q < suc n → is_some (get_or m q None) ≡ true) ⊎ ((q : ℕ) × (q < suc n) × (get_or m q None ≡ None))
    both None e r = inr (n, omega arith, e)
    both (Some x) e (inr r) = inr (r.0, omega (arith, r.1), r.2)
    both (Some x) e (inl f) = inl (λ q l. at q l (cases_eq q n))
      where
        at : (q : ℕ) → q < suc n → (q ≡ n) ⊎ (q ≡ n → ⊥) → is_some (get_or m q None) ≡ true
        at q l (inl i) = ap (λ (k : ℕ). is_some (get_or m k None)) i ∙ ap (λ (o : Option Entry). is_some o) e
        at q l (inr i) = f q (omega arith)

-- ---- a segment of the cut

-- what a segment of the cut does
record Adds (ps : List (List ℕ)) (m : Table) (s : Delivery) : Type 0 where
  agrees : Agrees ps (with_next m s)
  good : IsGood (answer m s)
  there : (q : ℕ) → is_some (get_or (with_next m s) q None) ≡ (is_some (get_or m q None) || eqb s.seq q)

bytes_same : (xs ys : List ℕ) → xs ≡ ys → bytes_eq xs ys ≡ true
bytes_same xs ys h = (bytes_eq-Decides xs ys).1 h

more_same : (a b : Bool) → a ≡ b → same_more a b ≡ true
more_same true b h = sym h
more_same false b h = ap not (sym h)

there_before : (m : Table) (n q : ℕ) (e : Entry) → get_or m n None ≡ Some e → is_some (get_or m q None) ≡ (is_some (get_or m q None) || eqb n q)
there_before m n q e h = by_eq (cases_eq n q)
  where
    or_false : (b c : Bool) → c ≡ false → b ≡ (b || c)
    or_false true c i = refl
    or_false false c i = sym i

    or_true : (b c : Bool) → b ≡ true → b ≡ (b || c)
    or_true true c i = refl
    or_true false c i = absurd (let j : false ≡ true = i in cc)

    by_eq : (n ≡ q) ⊎ (n ≡ q → ⊥) → is_some (get_or m q None) ≡ (is_some (get_or m q None) || eqb n q)
    by_eq (inl i) = or_true (is_some (get_or m q None)) (eqb n q) (ap (λ (k : ℕ). is_some (get_or m k None)) (sym i) ∙ ap (λ (o : Option Entry). is_some o) h)
    by_eq (inr i) = or_false (is_some (get_or m q None)) (eqb n q) (ne_eqb n q i)

there_set : (m : Table) (n q : ℕ) (e : Entry) → n < length m → is_some (get_or (set m n (Some e)) q None) ≡ (is_some (get_or m q None) || eqb n q)
there_set m n q e l = by_eq (cases_eq n q)
  where
    or_false : (b c : Bool) → c ≡ false → b ≡ (b || c)
    or_false true c i = refl
    or_false false c i = sym i

    or_second : (b c : Bool) → c ≡ true → (b || c) ≡ true
    or_second true c i = refl
    or_second false c i = i

    by_eq : (n ≡ q) ⊎ (n ≡ q → ⊥) → is_some (get_or (set m n (Some e)) q None) ≡ (is_some (get_or m q None) || eqb n q)
    by_eq (inl i) = ap (λ (k : ℕ). is_some (get_or (set m n (Some e)) k None)) (sym i) ∙ ap (λ (o : Option Entry). is_some o) (get_or-set_same m n (Some e) None l) ∙ sym (or_second (is_some (get_or m q None)) (eqb n q) (eq-eqb n q i))
    by_eq (inr i) = ap (λ (o : Option Entry). is_some o) (get_or-set_other m n q (Some e) None (λ j. i (sym j))) ∙ or_false (is_some (get_or m q None)) (eqb n q) (ne_eqb n q i)

good_kept : (m : Table) (s : Delivery) (b : Bool) → IsGood (let a : Answer = cond b (Ok Complete) (Ok Kept) in a)
good_kept m s true = tt
good_kept m s false = tt

adds_held : (ps : List (List ℕ)) (m : Table) (s : Delivery) → Agrees ps m → IsPiece ps s.seq s.piece s.more → (e : Entry) → get_or m s.seq None ≡ Some e → Adds ps m s
adds_held ps m s a i e h =
    let same = same_at ps m s.seq s.piece s.more e a i h in
    let is : same_entry e s ≡ true = ap (λ (b : Bool). b && same_more e.more s.more) (bytes_same e.piece s.piece same.0) ∙ more_same e.more s.more same.1 in
    let j = repeated m s e h is in
    let next : with_next m s ≡ m = ap (λ (b : Bool). cond b (with_segment m s) m) j.0 in
    record {
      agrees = subst (λ (t : Table). Agrees ps t) (sym next) a;
      good = subst (λ (x : Answer). IsGood x) (sym j.1) tt;
      there = λ q. ap (λ (t : Table). is_some (get_or t q None)) next ∙ there_before m s.seq q e h;
    }

last_false : (more : Bool) (q n : ℕ) → q < n → n ≤ 256 → (more ≡ true → suc q < n) → (more && eqb q 255) ≡ false
last_false false q n l k f = refl
last_false true q n l k f = ne_eqb q 255 (λ e. let r = f refl in omega (arith, r))

adds_free : (ps : List (List ℕ)) (m : Table) (s : Delivery) → IsCut ps → Agrees ps m → IsPiece ps s.seq s.piece s.more → get_or m s.seq None ≡ None → Adds ps m s
adds_free ps m s cut a i h =
    let number = number_fits ps s.seq s.piece s.more i in
    let early : (not s.more && is_held_above m s.seq) ≡ false = ap (λ (k : ℕ). not s.more && list_any is_some (drop k m)) (add-one s.seq) ∙ early_fits ps m s.seq s.piece s.more a i in
    let past : (is_ended_below m s.seq || (s.more && eqb s.seq 255)) ≡ false = ap (λ (b : Bool). b || (s.more && eqb s.seq 255)) (below_fits ps m s.seq s.piece s.more a i) ∙ last_false s.more s.seq (length ps) number.0 cut.numbers number.1 in
    let fits = room_fits ps m s.seq s.piece s.more a i h in
    let j = is_new m s h early past (le-leb _ _ (omega (arith, fits, cut.octets))) in
    let next : with_next m s ≡ with_segment m s = ap (λ (b : Bool). cond b (with_segment m s) m) j.0 in
    record {
      agrees = subst (λ (t : Table). Agrees ps t) (sym next) (agrees_set ps m s.seq s.piece s.more a i);
      good = subst (λ (x : Answer). IsGood x) (sym j.1) (good_kept m s (is_some (whole (with_segment m s))));
      there = λ q. ap (λ (t : Table). is_some (get_or t q None)) next ∙ there_set m s.seq q _ (within ps m s.seq a number.0);
    }

adds : (ps : List (List ℕ)) (m : Table) (s : Delivery) → IsCut ps → Agrees ps m → IsPiece ps s.seq s.piece s.more → Adds ps m s
adds ps m s cut a i = by_entry (get_or m s.seq None) refl
  where
    by_entry : (o : Option Entry) → get_or m s.seq None ≡ o → Adds ps m s
    by_entry None h = adds_free ps m s cut a i h
    by_entry (Some e) h = adds_held ps m s a i e h

-- ---- all segments of the cut

record Linked (ps : List (List ℕ)) (old : Table) (l : List Delivery) : Type 0 where
  agrees : Agrees ps (fold with_next old l)
  there : (q : ℕ) → is_some (get_or (fold with_next old l) q None) ≡ (is_some (get_or old q None) || has_number l q)

or_nothing : (b : Bool) → b ≡ (b || false)
or_nothing true = refl
or_nothing false = refl

or_or : (a b c : Bool) → ((a || b) || c) ≡ (a || (b || c))
or_or true b c = refl
or_or false b c = refl

linked : (ps : List (List ℕ)) (old : Table) (l : List Delivery) → IsCut ps → Agrees ps old → ArePiecesOf ps l → Linked ps old l
linked ps old [] cut agrees one = record { agrees = agrees; there = λ q. or_nothing (is_some (get_or old q None)) }
linked ps old (s ∷ l) cut agrees one =
    let step = adds ps old s cut agrees one.0 in
    let rest = linked ps (with_next old s) l cut step.agrees one.1 in
    record {
      agrees = rest.agrees;
      there = λ q. rest.there q ∙ ap (λ (b : Bool). b || has_number l q) (step.there q) ∙ or_or (is_some (get_or old q None)) (eqb s.seq q) (has_number l q);
    }

none_at : (n q : ℕ) → is_some (get_or (let m : Table = replicate n None in m) q None) ≡ false
none_at zero q = refl
none_at (suc n) zero = refl
none_at (suc n) (suc q) = none_at n q

agrees_empty : (ps : List (List ℕ)) → IsCut ps → Agrees ps empty_table
unfolding empty_table
agrees_empty ps cut = agrees_nothing 256 ps cut.numbers

none_empty : (q : ℕ) → is_some (get_or empty_table q None) ≡ false
unfolding empty_table
none_empty q = none_at 256 q

-- each segment of the cut is answered well
pub cut_answer : (ps : List (List ℕ)) (l : List Delivery) (s : Delivery) → IsCut ps → ArePiecesOf ps l → IsPiece ps s.seq s.piece s.more → IsGood (answer (held l) s)
cut_answer ps l s cut one i = (adds ps (held l) s cut (linked ps empty_table l cut (agrees_empty ps cut) one).agrees i).good

pub cut_held : (pieces : List (List ℕ)) (l : List Delivery) → IsCut pieces → ArePiecesOf pieces l → ((whole (held l) ≡ Some (all_of pieces)) ↔ HasAll pieces l) × ((whole (held l) ≡ Some (all_of pieces)) ⊎ (whole (held l) ≡ None))
cut_held pieces l cut one =
    let k = linked pieces empty_table l cut (agrees_empty pieces cut) one in
    let there = λ (q : ℕ). k.there q ∙ ap (λ (b : Bool). b || has_number l q) (none_empty q) in
    ((λ w. has (held l) k.agrees w there (looked (held l) (length pieces)), λ all. all_held pieces (held l) k.agrees cut.some (λ q h. there q ∙ all q h)), either (held l) k.agrees (looked (held l) (length pieces)))
  where
    has : (m : Table) → Agrees pieces m → whole m ≡ Some (all_of pieces) → ((q : ℕ) → is_some (get_or m q None) ≡ has_number l q) → ((q : ℕ) → q < length pieces → is_some (get_or m q None) ≡ true) ⊎ ((q : ℕ) × (q < length pieces) × (get_or m q None ≡ None)) → HasAll pieces l
    has m a w there (inl f) = λ q k. sym (there q) ∙ f q k
    has m a w there (inr x) = absurd (let i : Some (all_of pieces) ≡ None = sym w ∙ missing pieces m x.0 a x.1 x.2 in cc)

    either : (m : Table) → Agrees pieces m → ((q : ℕ) → q < length pieces → is_some (get_or m q None) ≡ true) ⊎ ((q : ℕ) × (q < length pieces) × (get_or m q None ≡ None)) → (whole m ≡ Some (all_of pieces)) ⊎ (whole m ≡ None)
    either m a (inl f) = inl (all_held pieces m a cut.some f)
    either m a (inr x) = inr (missing pieces m x.0 a x.1 x.2)
