-- What the runs that write a line for each record make of one.
use Rattle.std.proofs.Common.{◌≡◌, ◌↔◌, ℕ, ◌++◌, List, Option, None, IsTrue, false, true, refl}
use Rattle.bac_tag.specs.declared.refusals.Refusal.{Refusal}
use Rattle.bac_record.specs.declared.dealing.Dealt.{Dealt}
use Rattle.bac_record.specs.Deals.{IsDealt}
use Rattle.bac_stream.specs.declared.modes.Mode.{Mode}
use Rattle.bac_stream.specs.Judging.{IsAccepted, IsCanonical, IsRefused}
use Rattle.bac_stream.specs.Lines.{IsReported, ReportsAs, Said, refused, said_text, numbered}
use Rattle.bac_stream.proofs.JudgingLemmas.{accepted_not_counted, counted_as, refused_not_counted, refused_counted}

pub refused_dealt : (says : Mode → List ℕ → Said → Type 0) (mode : Mode) (number : ℕ) (octets old new : List ℕ) (refusal : Refusal) (dealt : Dealt)
    → says mode octets (refused refusal) → IsRefused mode octets → new ≡ old ++ numbered number (said_text (refused refusal))
    → dealt ≡ record { is_canonical = false; is_refused = true } → IsDealt (ReportsAs says mode) IsCanonical (IsRefused mode) number octets old new dealt
refused_dealt says mode number octets old new refusal dealt said none appended is = rw is (record {
  output = numbered number (said_text (refused refusal));
  is_output = (refused refusal, said, refl);
  appended = appended;
  canonical = refused_not_counted mode octets none;
  refused = refused_counted mode octets none;
})

pub accepted_dealt : (says : Mode → List ℕ → Said → Type 0) (mode : Mode) (number : ℕ) (octets old new : List ℕ) (mark : Option ℕ) (dealt : Dealt)
    → IsAccepted (IsReported says number) mode octets mark old new → (mark ≡ None) ↔ IsCanonical octets
    → IsTrue dealt.is_canonical ↔ (mark ≡ None) → dealt.is_refused ≡ false → IsDealt (ReportsAs says mode) IsCanonical (IsRefused mode) number octets old new dealt
accepted_dealt says mode number octets old new mark dealt is told counted accepted = record {
  output = numbered number (said_text is.appended.said);
  is_output = (is.appended.said, is.appended.is_said mode octets is.accepted is.marked, refl);
  appended = is.appended.appended;
  canonical = counted_as octets mark dealt.is_canonical counted told;
  refused = accepted_not_counted mode is.frame octets dealt.is_refused is.accepted accepted;
}
