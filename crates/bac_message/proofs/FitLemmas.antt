-- Frames that are taken one after another.
use Rattle.std.proofs.Common.{◌≡◌, ◌⊎◌, inl, inr, ℕ, ◌+◌, ◌<◌, Option, Some, List, [], ◌∷◌, ◌++◌, length, map, take, drop, get_or, sym, ap, subst, ◌∙◌, append_assoc, arith}
use Rattle.std.specs.List.{cons_option}
use Rattle.std.proofs.lemmas.List.{append-nil, map-append, take_more, take-append-drop, drop_more, length-take-le, length-map}
use Rattle.std.proofs.lemmas.List.Elements.{filter_map-append}
use Rattle.bac_npdu_parts.specs.declared.frame.Frame.{Frame}
use Rattle.bac_npdu_parts.specs.Frames.{FrameValue, value_of}
use Rattle.bac_segment.specs.Deliveries.{Delivery}
use Rattle.bac_segment.specs.Tables.{Table}
use Rattle.bac_segment.specs.Taking.{held, with_next}
use Rattle.bac_segment.proofs.JoinLemmas.{held_more}
use Rattle.bac_message.specs.declared.faults.FrameJoinFault.{FrameJoinFault}
use Rattle.bac_message.specs.declared.faults.FrameJoinFault.TheVariants.{OutOfMemory}
use Rattle.bac_message.specs.Messages.{Heads, delivered, segments_in}
use Rattle.bac_message.specs.JoinedFrames.{first_heads, Fits, AllFit, Misfits, TakesFrame, IsMisfit}

all_fit_more : (heads : Option Heads) (before xs : List FrameValue) (f : FrameValue) → AllFit heads before xs → Fits heads (held (segments_in (before ++ xs))) f → AllFit heads before (xs ++ f ∷ [])
all_fit_more heads before [] f a fits = (subst (λ (l : List FrameValue). Fits heads (held (segments_in l)) f) (append-nil before) fits, tt)
all_fit_more heads before (x ∷ xs) f a fits =
    (a.0, all_fit_more heads (before ++ x ∷ []) xs f a.1 (subst (λ (l : List FrameValue). Fits heads (held (segments_in l)) f) (sym (append_assoc before (x ∷ []) xs)) fits))

held_next : (xs : List FrameValue) (f : FrameValue) (s : Delivery) → delivered f ≡ Some s → held (segments_in (xs ++ f ∷ [])) ≡ with_next (held (segments_in xs)) s
held_next xs f s e =
    ap held (filter_map-append delivered xs (f ∷ [])) ∙ ap (λ (o : Option Delivery). held (segments_in xs ++ cons_option o [])) e ∙ held_more (segments_in xs) s

-- so far: the first frames are of one message, and this table is held
pub record IsSoFar (heads : Option Heads) (frames : List FrameValue) (m : Table) : Type 0 where
  pub fit : AllFit heads [] frames
  pub table : m ≡ held (segments_in frames)

pub taken_one : (heads : Option Heads) (frames : List FrameValue) (old new : Table) (f : FrameValue) → IsSoFar heads frames old → TakesFrame heads old f new → IsSoFar heads (frames ++ f ∷ []) new
taken_one heads frames old new f far takes = record {
  fit = all_fit_more heads [] frames f far.fit (subst (λ (m : Table). Fits heads m f) far.table takes.fits);
  table = takes.new_is ∙ ap (λ (m : Table). with_next m takes.fits.segment) far.table ∙ sym (held_next frames f takes.fits.segment takes.fits.holds);
}

-- the first frames of a list, and one more
pub values_more : (frames : List Frame) (i : ℕ) (frame : Frame) → i < length frames → frame ≡ get_or frames i frame → map value_of (take (i + 1) frames) ≡ map value_of (take i frames) ++ value_of frame ∷ []
values_more frames i frame b is =
    ap (λ (l : List Frame). map value_of l) (take_more frames i frame b) ∙ map-append value_of (take i frames) (get_or frames i frame ∷ [])
    ∙ ap (λ (f : Frame). map value_of (take i frames) ++ value_of f ∷ []) (sym is)

values_split : (frames : List Frame) (i : ℕ) (frame : Frame) → i < length frames → frame ≡ get_or frames i frame → map value_of frames ≡ map value_of (take i frames) ++ value_of frame ∷ map value_of (drop (i + 1) frames)
values_split frames i frame b is =
    ap (λ (l : List Frame). map value_of l) (sym (take-append-drop i frames)) ∙ map-append value_of (take i frames) (drop i frames)
    ∙ ap (λ (l : List Frame). map value_of (take i frames) ++ map value_of l) (drop_more frames i frame b)
    ∙ ap (λ (f : Frame). map value_of (take i frames) ++ value_of f ∷ map value_of (drop (i + 1) frames)) (sym is)

count_first : (frames : List Frame) (i : ℕ) → i < length frames → i ≡ length (map value_of (take i frames))
count_first frames i b = sym (length-map (take i frames) value_of ∙ length-take-le i frames (omega (arith, b)))

pub misfit_at : (heads : Option Heads) (frames : List Frame) (i : ℕ) (frame : Frame) (m : Table) (fault : FrameJoinFault) → i < length frames → frame ≡ get_or frames i frame → first_heads (map value_of frames) ≡ heads
    → IsSoFar heads (map value_of (take i frames)) m → (fault ≡ OutOfMemory) ⊎ Misfits heads m i (value_of frame) fault → (fault ≡ OutOfMemory) ⊎ IsMisfit (map value_of frames) fault
misfit_at heads frames i frame m fault b is first far (inl memory) = inl memory
misfit_at heads frames i frame m fault b is first far (inr misfit) = inr (record {
  before = map value_of (take i frames);
  frame = value_of frame;
  after = map value_of (drop (i + 1) frames);
  frames_are = values_split frames i frame b is;
  fit = subst (λ (h : Option Heads). AllFit h [] (map value_of (take i frames))) (sym first) far.fit;
  misfit = subst (λ (h : Option Heads). Misfits h (held (segments_in (map value_of (take i frames)))) (length (map value_of (take i frames))) (value_of frame) fault) (sym first)
      (subst (λ (k : ℕ). Misfits heads (held (segments_in (map value_of (take i frames)))) k (value_of frame) fault) (count_first frames i b)
      (subst (λ (t : Table). Misfits heads t i (value_of frame) fault) far.table misfit));
})

pub taken_more : (heads : Option Heads) (frames : List Frame) (i : ℕ) (frame : Frame) (old new : Table) → i < length frames → frame ≡ get_or frames i frame → IsSoFar heads (map value_of (take i frames)) old → TakesFrame heads old (value_of frame) new
    → IsSoFar heads (map value_of (take (i + 1) frames)) new
taken_more heads frames i frame old new b is far takes =
    subst (λ (l : List FrameValue). IsSoFar heads l new) (sym (values_more frames i frame b is)) (taken_one heads (map value_of (take i frames)) old new (value_of frame) far takes)
