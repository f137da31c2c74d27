-- Records whose segments are gathered one after another.
use Rattle.std.proofs.Common.{◌≡◌, ◌≢◌, ◌⊎◌, inl, inr, ◌+◌, ◌<◌, ◌≤◌, ℕ, Bool, true, false, not, Option, Some, None, Result, Ok, Err, List, [], ◌∷◌, ◌++◌, length, map, set, get_or, refl, sym, ap, subst, ◌∙◌, append_assoc, cond, ltb, eqb, arith}
use Rattle.std.specs.Prelude.{is_none, is_some}
use Rattle.std.specs.List.{position, position_or_len}
use Rattle.std.specs.Option.{option_map, unwrap_or}
use Rattle.std.proofs.lemmas.List.{append-nil, length-append, length-map, map-set, get_or-map, set-get_or}
use Rattle.std.proofs.lemmas.Bool.{eqb-true}
use Rattle.bac_tag.specs.declared.refusals.Refusal.{Refusal}
use Rattle.bac_record.specs.Batches.{IsFront, IsPartial}
use Rattle.bac_record.specs.Records.{IsRecord, record_of}
use Rattle.bac_record.proofs.Unique.{first_same}
use Rattle.bac_npdu_parts.specs.Frames.{FrameValue, SpellsFrame}
use Rattle.bac_segment.specs.declared.faults.Taken.{Taken}
use Rattle.bac_segment.specs.declared.faults.TakeFault.{TakeFault}
use Rattle.bac_segment.specs.Deliveries.{Delivery}
use Rattle.bac_segment.specs.Tables.{Entry, Table, empty_table, whole, with_segment}
use Rattle.bac_segment.specs.Taking.{Answer, Judges, answer, entry_at, held, may_add, with_next}
use Rattle.bac_segment.proofs.JudgeLemmas.{judged_somehow, no_repeat}
use Rattle.bac_message.specs.declared.faults.FrameJoinFault.{FrameJoinFault}
use Rattle.bac_message.specs.declared.faults.FrameJoinFault.TheVariants.{NotSegment, Conflict, Segment, Incomplete, Content, OutOfMemory}
use Rattle.bac_message.specs.declared.record_faults.RecordJoinFault.{RecordJoinFault}
use Rattle.bac_message.specs.declared.record_faults.RecordJoinFault.TheVariants as unjoined
use Rattle.bac_message.specs.Messages.{Heads, delivered, head_of, heads_of, heads_with, segments_in}
use Rattle.bac_message.specs.JoinedFrames.{AllFit, HasContent, HasNoContent, Misfits, TakesFrame, IsMisfit, IsFirstMissing, IsFrameJoinFault}
use Rattle.bac_message.specs.FrameRecords.{HasRest, IsJoinedOfRecords, IsNoFrame, IsRecordJoinFault, SpellRecords}
use Rattle.bac_message.specs.Gathered.{IsTaken, first_gap}
use Rattle.bac_message.specs.RecordJoins.{GathersFrame, GivesTable, GivesWhole, HasFaultBefore, HaveFirst, IsWholeFault}
use Rattle.bac_message.proofs.FitLemmas.{IsSoFar, taken_one}
use Rattle.bac_message.proofs.JoiningLemmas.{no_frames}
use Rattle.bac_message.proofs.MissingLemmas.{AreMarks, no_marks, marks_more, first_is}
use Rattle.bac_message.proofs.PieceLemmas.{segment_in}
use Rattle.bac_message.proofs.RecordLemmas.{record_pushed}

-- ---- records after others

pub spelled_after : (xs ys : List FrameValue) (a b : List ℕ) → SpellRecords xs a → SpellRecords ys b → SpellRecords (xs ++ ys) (a ++ b)
spelled_after [] ys a b are more = subst (SpellRecords ys) (ap (λ (l : List ℕ). l ++ b) (sym are)) more
spelled_after (x ∷ xs) ys a b (first, rest, has, is, are, sum) more =
    (first, rest ++ b, has, is, spelled_after xs ys rest b are more, ap (λ (l : List ℕ). l ++ b) sum ∙ append_assoc (record_of first) rest b)

pub rest_after : (first count : ℕ) (records rest left : List ℕ) → HasRest first records rest → HasRest count rest left → HasRest (first + count) records left
rest_after first count records rest left (xs, a, are, n, sum) (ys, b, more, k, others) = (
  xs ++ ys,
  a ++ b,
  spelled_after xs ys a b are more,
  omega (arith, n, k, length-append xs ys),
  sum ∙ ap (λ (l : List ℕ). a ++ l) others ∙ sym (append_assoc a b left),
)

pub rest_next : (count : ℕ) (records rest octets left : List ℕ) (frame : FrameValue) → HasRest count records rest → IsRecord octets → rest ≡ record_of octets ++ left → SpellsFrame frame octets → HasRest (count + 1) records left
rest_next count records rest octets left frame (xs, a, are, n, sum) is split spelled = (
  xs ++ frame ∷ [],
  a ++ record_of octets,
  record_pushed SpellsFrame xs frame a octets are spelled is,
  omega (arith, n, length-append xs (frame ∷ [])),
  sum ∙ ap (λ (l : List ℕ). a ++ l) split ∙ sym (append_assoc a (record_of octets) left),
)

pub record_long : (rest octets left : List ℕ) → rest ≡ record_of octets ++ left → length rest ≡ 2 + length octets + length left
record_long rest octets left split = omega (arith, ap (λ (l : List ℕ). length l) split, length-append (record_of octets) left)

-- ---- checking the rest

-- so far: so many more frames are there, and this is left
pub record IsFarther (first index : ℕ) (rest left : List ℕ) : Type 0 where
  pub count : ℕ
  pub index_is : index ≡ first + count
  pub has : HasRest count rest left
  pub within : index + length left ≤ first + length rest

pub none_farther : (first : ℕ) (rest : List ℕ) → IsFarther first first rest rest
none_farther first rest = record { count = 0; index_is = omega arith; has = ([], [], refl, refl, refl); within = omega arith }

pub one_farther : (first index next : ℕ) (rest left octets more : List ℕ) → IsFarther first index rest left → next ≡ index + 1 → IsFront octets left → left ≡ record_of octets ++ more → (frame : FrameValue) × SpellsFrame frame octets → IsFarther first next rest more
one_farther first index next rest left octets more far n (others, is, shape) split (frame, spelled) = record {
  count = far.count + 1;
  index_is = omega (arith, n, far.index_is);
  has = rest_next far.count rest left octets more frame far.has is split spelled;
  within = omega (arith, n, far.within, record_long left octets more split);
}

pub all_farther : (first index : ℕ) (rest left : List ℕ) → IsFarther first index rest left → left ≡ [] → (frames : List FrameValue) × SpellRecords frames rest
all_farther first index rest left far none =
    let has = far.has in
    (has.0, subst (SpellRecords has.0) (sym (has.4 ∙ ap (λ (l : List ℕ). has.1 ++ l) none ∙ append-nil has.1)) has.2)

pub truncated_farther : (first index : ℕ) (records rest left : List ℕ) → IsFarther first index rest left → left ≢ [] → IsPartial left → HasRest first records rest → IsRecordJoinFault records (unjoined.Truncated index)
truncated_farther first index records rest left far some partial has =
    (left, subst (λ (n : ℕ). HasRest n records left) (sym far.index_is) (rest_after first far.count records rest left has far.has), some, partial.0)

pub refused_farther : (first index : ℕ) (records rest left octets : List ℕ) (fault : RecordJoinFault) → IsFarther first index rest left → IsFront octets left → (refusal : Refusal) × (fault ≡ unjoined.Refused index refusal) × IsNoFrame octets refusal
    → HasRest first records rest → IsRecordJoinFault records fault
refused_farther first index records rest left octets fault far (more, is, shape) (refusal, said, none) has =
    let all = rest_after first far.count records rest left has far.has in
    subst (IsRecordJoinFault records) (sym said)
    (octets, more, is, subst (λ (l : List ℕ). HasRest index records l) shape (subst (λ (n : ℕ). HasRest n records left) (sym far.index_is) all), none)

-- ---- a fault of the frames before the rest

pub has_rest : (count : ℕ) (records rest : List ℕ) (fault : FrameJoinFault) → HasFaultBefore count records rest fault → HasRest count records rest
has_rest count records rest fault h = (h.frames, h.front, h.spelled, h.count_is, h.sum)

pub fault_of_all : (count : ℕ) (records rest : List ℕ) (fault : FrameJoinFault) → HasFaultBefore count records rest fault → (after : List FrameValue) × SpellRecords after rest → IsRecordJoinFault records (unjoined.Frames fault)
fault_of_all count records rest fault h (after, spelled) =
    let all = subst (SpellRecords (h.frames ++ after)) (sym h.sum) (spelled_after h.frames after h.front rest h.spelled spelled) in
    (h.frames ++ after, all, h.fault_is after all)

-- ---- what is held under a number

taken_there : (m : Table) (s : Delivery) (taken : Taken) → answer m s ≡ Ok taken → may_add m s ≡ false → (o : Option Entry) → entry_at m s.seq ≡ o → is_some o ≡ true
taken_there m s taken h not_new (Some e) i = refl
taken_there m s taken h not_new None i = let judged = judged_somehow m s in by_judged judged.0 judged.1
  where
    by_judged : (r : Result Bool TakeFault) → Judges m s r → false ≡ true
    by_judged (Ok true) j = sym not_new ∙ j.0
    by_judged (Ok false) j = absurd (no_repeat m s i j.1)
    by_judged (Err fault) j = absurd (let a : Answer = Ok taken in let b : Answer = Err fault in let k : a ≡ b = sym h ∙ j.1 in cc)

-- which numbers are held
abbrev numbers : Table → List Bool
numbers m = map is_some m

number_at : (m : Table) (q : ℕ) → q < length m → get_or (numbers m) q false ≡ is_some (entry_at m q)
number_at m q b = get_or-map is_some m q None false b

numbers_more : (m : Table) (s : Delivery) (taken : Taken) → length m ≡ 256 → s.seq < 256 → answer m s ≡ Ok taken → numbers (with_next m s) ≡ set (numbers m) s.seq true
numbers_more m s taken long small h = by_add (may_add m s) refl
  where
    by_add : (b : Bool) → may_add m s ≡ b → numbers (cond b (with_segment m s) m) ≡ set (numbers m) s.seq true
    by_add true e = map-set is_some m s.seq (Some (record { piece = s.piece; more = s.more }))
    by_add false e =
        let there = number_at m s.seq (omega (arith, long, small)) ∙ taken_there m s taken h e (entry_at m s.seq) refl in
        sym (ap (λ (x : Bool). set (numbers m) s.seq x) (sym there) ∙ set-get_or (numbers m) s.seq false)

first_open : (m : Table) → position_or_len is_none m ≡ position_or_len (λ b. not b) (numbers m)
first_open [] = refl
first_open (None ∷ m) = refl
first_open (Some e ∷ m) = ap (λ (n : ℕ). 1 + n) (first_open m)

gap_of : (m : Table) → length m ≡ 256 → first_gap m ≡ unwrap_or (position (λ b. not b) (numbers m)) 256
gap_of m long =
    ap (λ (n : ℕ). unwrap_or (cond (ltb n (length m)) (Some n) None) (length m)) (first_open m)
    ∙ ap (λ (n : ℕ). unwrap_or (cond (ltb (position_or_len (λ b. not b) (numbers m)) n) (Some (position_or_len (λ b. not b) (numbers m))) None) (length m)) (sym (length-map m (is_some {T = Entry})))
    ∙ ap (λ (n : ℕ). unwrap_or (position (λ b. not b) (numbers m)) n) long

-- ---- gathering

-- so far: these frames are of the message, this table is held of them, and this is left
pub record IsGatheredTo (records : List ℕ) (heads : Option Heads) (count : ℕ) (rest : List ℕ) (m : Table) : Type 0 where
  pub frames : List FrameValue
  pub front : List ℕ
  pub spelled : SpellRecords frames front
  pub count_is : count ≡ length frames
  pub sum : records ≡ front ++ rest
  pub far : IsSoFar heads frames m
  pub marks : AreMarks (numbers m) frames
  pub within : count + length rest ≤ length records

pub none_gathered : (records : List ℕ) (heads : Option Heads) (m : Table) → m ≡ empty_table → IsGatheredTo records heads 0 records m
unfolding empty_table
none_gathered records heads m none = record {
  frames = [];
  front = [];
  spelled = refl;
  count_is = refl;
  sum = refl;
  far = record { fit = tt; table = none };
  marks = no_marks (numbers m) (ap numbers none);
  within = omega arith;
}

pub gathered_rest : (records : List ℕ) (heads : Option Heads) (count : ℕ) (rest : List ℕ) (m : Table) → IsGatheredTo records heads count rest m → HasRest count records rest
gathered_rest records heads count rest m far = (far.frames, far.front, far.spelled, far.count_is, far.sum)

pub one_gathered : (records : List ℕ) (heads : Option Heads) (count next : ℕ) (rest octets more : List ℕ) (old new : Table) (f : FrameValue) → IsGatheredTo records heads count rest old → next ≡ count + 1 → IsFront octets rest → rest ≡ record_of octets ++ more
    → SpellsFrame f octets → TakesFrame heads old f new → IsGatheredTo records heads next more new
one_gathered records heads count next rest octets more old new f far n (others, is, shape) split spelled takes =
    let s = takes.fits.segment in
    let holds = takes.fits.holds in
    let long : length old ≡ 256 = sym (length-map old (is_some {T = Entry})) ∙ far.marks.places in
    let small = (segment_in f octets s spelled holds).1 in
    let marked = numbers_more old s takes.fits.taken long small takes.fits.answer_is in
    record {
      frames = far.frames ++ f ∷ [];
      front = far.front ++ record_of octets;
      spelled = record_pushed SpellsFrame far.frames f far.front octets far.spelled spelled is;
      count_is = omega (arith, n, far.count_is, length-append far.frames (f ∷ []));
      sum = far.sum ∙ ap (λ (l : List ℕ). far.front ++ l) split ∙ sym (append_assoc far.front (record_of octets) more);
      far = taken_one heads far.frames old new f far.far takes;
      marks = marks_more (numbers old) (numbers new) far.frames f s s.seq far.marks holds refl small (ap numbers takes.new_is ∙ marked);
      within = omega (arith, n, far.within, record_long rest octets more split);
    }

to_fault : (heads : Option Heads) (m : Table) (i : ℕ) (f : FrameValue) (frames : List FrameValue) (fault : FrameJoinFault) → Misfits heads m i f fault → IsMisfit frames fault → IsFrameJoinFault frames fault
to_fault heads m i f frames (NotSegment k) h misfit = misfit
to_fault heads m i f frames (Conflict k) h misfit = misfit
to_fault heads m i f frames (Segment k fault) h misfit = misfit
to_fault heads m i f frames (Incomplete n) h misfit = absurd h
to_fault heads m i f frames (Content refusal) h misfit = absurd h
to_fault heads m i f frames OutOfMemory h misfit = absurd h

pub misfit_gathered : (records : List ℕ) (heads : Option Heads) (count next : ℕ) (rest octets more : List ℕ) (m : Table) (f : FrameValue) (fault : FrameJoinFault) → IsGatheredTo records heads count rest m → HaveFirst records heads → next ≡ count + 1
    → IsFront octets rest → rest ≡ record_of octets ++ more → SpellsFrame f octets → Misfits heads m count f fault → HasFaultBefore next records more fault
misfit_gathered records heads count next rest octets more m f fault far first n (others, is, shape) split spelled misfit = record {
  frames = far.frames ++ f ∷ [];
  front = far.front ++ record_of octets;
  spelled = record_pushed SpellsFrame far.frames f far.front octets far.spelled spelled is;
  count_is = omega (arith, n, far.count_is, length-append far.frames (f ∷ []));
  sum = far.sum ∙ ap (λ (l : List ℕ). far.front ++ l) split ∙ sym (append_assoc far.front (record_of octets) more);
  fault_is = λ after all.
      let same = first ((far.frames ++ f ∷ []) ++ after) all in
      to_fault heads m count f ((far.frames ++ f ∷ []) ++ after) fault misfit (record {
        before = far.frames;
        frame = f;
        after = after;
        frames_are = append_assoc far.frames (f ∷ []) after;
        fit = subst (λ (h : Option Heads). AllFit h [] far.frames) (sym same) far.far.fit;
        misfit = subst (λ (h : Option Heads). Misfits h (held (segments_in far.frames)) (length far.frames) f fault) (sym same)
            (subst (λ (t : Table). Misfits heads t (length far.frames) f fault) far.far.table (subst (λ (k : ℕ). Misfits heads m k f fault) far.count_is misfit));
      });
}

pub next_gathered : (records : List ℕ) (heads : Option Heads) (count next : ℕ) (rest octets more : List ℕ) (old new : Table) (misfit : Option FrameJoinFault) → IsGatheredTo records heads count rest old → next ≡ count + 1 → IsFront octets rest
    → rest ≡ record_of octets ++ more → (f : FrameValue) × SpellsFrame f octets × GathersFrame heads old count f misfit new → misfit ≡ None → IsGatheredTo records heads next more new
next_gathered records heads count next rest octets more old new misfit far n front split (f, spelled, gathers) none =
    one_gathered records heads count next rest octets more old new f far n front split spelled (subst (λ (o : Option FrameJoinFault). GathersFrame heads old count f o new) none gathers)

pub next_misfit : (records : List ℕ) (heads : Option Heads) (count next : ℕ) (rest octets more : List ℕ) (old new : Table) (misfit : Option FrameJoinFault) (fault : FrameJoinFault) → IsGatheredTo records heads count rest old → HaveFirst records heads
    → next ≡ count + 1 → IsFront octets rest → rest ≡ record_of octets ++ more → (f : FrameValue) × SpellsFrame f octets × GathersFrame heads old count f misfit new → misfit ≡ Some fault → HasFaultBefore next records more fault
next_misfit records heads count next rest octets more old new misfit fault far first n front split (f, spelled, gathers) some =
    misfit_gathered records heads count next rest octets more old f fault far first n front split spelled (subst (λ (o : Option FrameJoinFault). GathersFrame heads old count f o new) some gathers)

pub all_gathered : (records : List ℕ) (heads : Option Heads) (count : ℕ) (rest : List ℕ) (m : Table) → IsGatheredTo records heads count rest m → HaveFirst records heads → rest ≡ [] → GivesTable records heads m
all_gathered records heads count rest m far first none =
    let all = subst (SpellRecords far.frames) (sym (far.sum ∙ ap (λ (l : List ℕ). far.front ++ l) none ∙ append-nil far.front)) far.spelled in
    let same = first far.frames all in
    record {
      frames = far.frames;
      spelled = all;
      heads_are = same;
      of_one = subst (λ (h : Option Heads). AllFit h [] far.frames) (sym same) far.far.fit;
      table_is = far.far.table;
      gap_is = first_is (numbers m) far.frames (first_gap m) far.marks (gap_of m (sym (length-map m (is_some {T = Entry})) ∙ far.marks.places));
    }

-- ---- the first record

pub have_first : (records octets : List ℕ) (f : FrameValue) (heads : Option Heads) → ((x y : FrameValue) (b : List ℕ) → SpellsFrame x b → SpellsFrame y b → x ≡ y) → IsFront octets records → SpellsFrame f octets → heads ≡ heads_of f → HaveFirst records heads
have_first records octets f heads one (more, is, shape) spelled same [] are = absurd (let e : record_of octets ++ more ≡ [] = sym shape ∙ are in cc)
have_first records octets f heads one (more, is, shape) spelled same (x ∷ xs) (first, rest, has, was, others, sum) =
    let e = first_same first octets rest more (sym sum ∙ shape) in
    ap heads_of (one x f octets (subst (SpellsFrame x) e.0 has) spelled) ∙ sym same

no_heads : (f : FrameValue) → heads_of f ≡ None → delivered f ≡ None
no_heads f h = by_holds (delivered f) h
  where
    by_holds : (o : Option Delivery) → option_map (λ s. heads_with (head_of f) s) o ≡ None → o ≡ None
    by_holds None i = refl
    by_holds (Some s) i = absurd (let e : Some (heads_with (head_of f) s) ≡ None = i in cc)

pub first_is_none : (records octets rest : List ℕ) (f g : FrameValue) → IsFront octets records → records ≡ record_of octets ++ rest → SpellsFrame f octets → heads_of g ≡ heads_of f → delivered g ≡ None → HasFaultBefore 1 records rest (NotSegment 0)
first_is_none records octets rest f g (more, is, shape) split spelled same none = record {
  frames = f ∷ [];
  front = record_of octets;
  spelled = (octets, [], spelled, is, refl, sym (append-nil (record_of octets)));
  count_is = refl;
  sum = split;
  fault_is = λ after all. record {
    before = [];
    frame = f;
    after = after;
    frames_are = refl;
    fit = tt;
    misfit = (refl, no_heads f (sym same ∙ ap (λ (o : Option Delivery). option_map (λ s. heads_with (head_of g) s) o) none));
  };
}

pub not_empty : (l : List ℕ) (b : Bool) → b ≡ eqb (length l) 0 → b ≡ false → l ≢ []
not_empty l b is unset none = let e : true ≡ false = sym (ap (λ (x : List ℕ). eqb (length x) 0) none) ∙ sym is ∙ unset in absurd (cc)

pub is_nothing : (l : List ℕ) (b : Bool) → b ≡ eqb (length l) 0 → b ≡ true → l ≡ []
is_nothing [] b is set = refl
is_nothing (x ∷ l) b is set = absurd (omega (arith, eqb-true (length (x ∷ l)) 0 (sym is ∙ set)))

pub none_at_all : (records : List ℕ) → records ≡ [] → IsRecordJoinFault records (unjoined.Frames (Incomplete 0))
none_at_all records none = ([], none, no_frames [] refl)

pub truncated_at : (count : ℕ) (records rest : List ℕ) → HasRest count records rest → rest ≢ [] → IsPartial rest → IsRecordJoinFault records (unjoined.Truncated count)
truncated_at count records rest has some partial = (rest, has, some, partial.0)

pub refused_at : (count : ℕ) (records rest octets : List ℕ) (fault : RecordJoinFault) → HasRest count records rest → IsFront octets rest
    → (fault ≡ unjoined.OutOfMemory) ⊎ ((refusal : Refusal) × (fault ≡ unjoined.Refused count refusal) × IsNoFrame octets refusal) → IsRecordJoinFault records fault
refused_at count records rest octets fault has front (inl memory) = subst (IsRecordJoinFault records) (sym memory) tt
refused_at count records rest octets fault has (more, is, shape) (inr (refusal, said, none)) =
    subst (IsRecordJoinFault records) (sym said) (octets, more, is, subst (λ (l : List ℕ). HasRest count records l) shape has, none)

pub whole_records : (records : List ℕ) → HasRest 0 records records
whole_records records = ([], [], refl, refl, refl)

-- ---- all records

pub joined_of : (records canonical : List ℕ) (heads : Option Heads) (m : Table) → GivesTable records heads m → GivesWhole heads m canonical → IsJoinedOfRecords records canonical
joined_of records canonical heads m t (octets, all, gives) = record {
  frames = t.frames;
  spelled = t.spelled;
  frame = gives.frame;
  joined = (octets, record { of_one = t.of_one; octets_are = ap whole (sym t.table_is) ∙ all }, subst (λ (h : Option Heads). HasContent h octets gives.frame) (sym t.heads_are) gives.content);
  is_least = gives.is_least;
}

pub unjoined_of : (records : List ℕ) (heads : Option Heads) (m : Table) (fault : FrameJoinFault) → GivesTable records heads m → IsWholeFault heads m fault → IsRecordJoinFault records (unjoined.Frames fault)
unjoined_of records heads m fault t h = (t.frames, t.spelled, by_fault fault h)
  where
    by_fault : (x : FrameJoinFault) → IsWholeFault heads m x → IsFrameJoinFault t.frames x
    by_fault (Incomplete n) (missing, is) = (t.of_one, ap whole (sym t.table_is) ∙ missing, subst (IsFirstMissing (segments_in t.frames)) (sym is) t.gap_is)
    by_fault (Content refusal) (octets, all, none) =
        (octets, record { of_one = t.of_one; octets_are = ap whole (sym t.table_is) ∙ all }, subst (λ (h : Option Heads). HasNoContent h octets refusal) (sym t.heads_are) none)
    by_fault OutOfMemory i = tt
    by_fault (NotSegment k) i = absurd i
    by_fault (Conflict k) i = absurd i
    by_fault (Segment k e) i = absurd i

-- ---- one frame

pub took_piece : (heads : Option Heads) (old new : Table) (f : FrameValue) (s : Delivery) → delivered f ≡ Some s → heads_of f ≡ heads → IsTaken old s new → TakesFrame heads old f new
took_piece heads old new f s holds same t = record {
  fits = record { segment = s; holds = holds; heads_are = same; taken = t.taken; answer_is = t.answer_is };
  new_is = t.new_is;
}
