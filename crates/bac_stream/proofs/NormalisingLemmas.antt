-- What normalise makes of a record.
use Rattle.std.proofs.Common.{◌≡◌, ℕ, ◌++◌, List, Option, None, Some, refl, false, ◌↔◌, IsTrue}
use Rattle.bac_tag.specs.Laws.Spelling.{unmarked_least}
use Rattle.bac_record.specs.declared.dealing.Dealt.{Dealt}
use Rattle.bac_record.specs.Deals.{IsDealt}
use Rattle.bac_record.specs.Records.{IsRecord, record_of}
use Rattle.bac_stream.specs.declared.modes.Mode.{Mode}
use Rattle.bac_stream.specs.Judging.{IsCanonical, IsAccepted, IsAcceptedAs, IsRefused}
use Rattle.bac_stream.specs.Lines.{AppendsRecord, IsRewritten, NormalisesTo}
use Rattle.bac_stream.proofs.JudgingLemmas.{accepted_spelled, written_fits, accepted_not_counted, counted_as}

module _ (mode : Mode) (number : ℕ) (octets old new : List ℕ) (dealt : Dealt) where
  -- canonical octets stay as they are
  pub kept_dealt : (mark : Option ℕ) → IsAcceptedAs mode octets mark → mark ≡ None → (mark ≡ None) ↔ IsCanonical octets → new ≡ old ++ record_of octets → IsTrue dealt.is_canonical ↔ (mark ≡ None) → dealt.is_refused ≡ false
      → IsDealt (NormalisesTo mode) IsCanonical (IsRefused mode) number octets old new dealt
  kept_dealt None a none m e p r = record {
    output = record_of octets;
    is_output = (a.frame, octets, a.accepted, unmarked_least None refl a.marked, refl);
    appended = e;
    canonical = counted_as octets None dealt.is_canonical p m;
    refused = accepted_not_counted mode a.frame octets dealt.is_refused a.accepted r;
  }
  kept_dealt (Some place) a none m e p r = absurd (let i : Some place ≡ None = none in cc)

  -- others are rewritten
  pub rewritten_dealt : (mark : Option ℕ) → IsAccepted (λ frame _. IsRewritten frame) mode octets mark old new → IsRecord octets → (mark ≡ None) ↔ IsCanonical octets → IsTrue dealt.is_canonical ↔ (mark ≡ None) → dealt.is_refused ≡ false
      → IsDealt (NormalisesTo mode) IsCanonical (IsRefused mode) number octets old new dealt
  rewritten_dealt mark a fits m p r =
      let w : AppendsRecord a.frame old new = a.appended (λ canonical c. written_fits a.frame octets canonical (accepted_spelled mode a.frame octets a.accepted) fits c) in
      record {
        output = record_of w.canonical;
        is_output = (a.frame, w.canonical, a.accepted, w.is_canonical, refl);
        appended = w.new_is;
        canonical = counted_as octets mark dealt.is_canonical p m;
        refused = accepted_not_counted mode a.frame octets dealt.is_refused a.accepted r;
      }
