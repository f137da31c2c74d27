-- What the headline speaks of.
use Rattle.std.proofs.Common.{◌≡◌, ◌≢◌, ℕ, List, Some, refl, sym, ◌∙◌, Ok, Err}
use Rattle.bac_tag.specs.declared.refusals.Refusal.{Refusal}
use Rattle.bac_tag.specs.declared.refusals.Why.{Why}
use Rattle.bac_tag.specs.declared.refusals.Why.TheVariants.{Short, Trailing, Version, Address, PduType, Window, Tag, Length, Content, Depth, NotCanonical, OutOfMemory}
use Rattle.bac_npdu_parts.specs.Frames.{FrameValue, SpellsFrame}
use Rattle.bac_record.proofs.FileRuns.{result_over}
use Rattle.bac_stream.specs.Headline.{HadMemory, IsDecoded, IsDecodedStrictly, RunsByRecords}
use Rattle.bac_stream.specs.Intakes.{Item, GivesItsValue}
use Rattle.bac_stream.specs.Judging.{IsCanonical, IsCanonicalFor, IsRefused}
use Rattle.bac_stream.specs.declared.modes.Mode.{Mode}
use Rattle.bac_stream.specs.declared.modes.Mode.TheVariants.{Strict}
use Rattle.bac_stream.proofs.JudgingLemmas.{marked_none}
use Rattle.bac_stream.proofs.FeedLemmas.{strict_gives, tolerant_gives_frame}

pub runs_by_records : (line : ℕ → List ℕ → List ℕ → Type 0) (stops : List ℕ → Refusal → Type 0) (mode : Mode) → RunsByRecords line stops mode
runs_by_records line stops mode list rest file left taken after result records through stopped =
    result_over line stops IsCanonical (IsRefused mode) left taken after list rest file records (Some file) result refl through stopped

module _ (frames : (f g : FrameValue) (b : List ℕ) → SpellsFrame f b → SpellsFrame g b → f ≡ g) where
  pub decoded_gives : (octets : List ℕ) (item : Item) → IsDecoded octets item → HadMemory item → GivesItsValue SpellsFrame octets item
  decoded_gives octets (Ok frame) is had = tolerant_gives_frame frames octets frame is
  decoded_gives octets (Err refusal) is had = (is had).none

  -- octets that are refused for a reason
  refused_for : (octets : List ℕ) (refusal : Refusal) (why : Why) → refusal.why ≡ why → IsDecodedStrictly octets (Err refusal) → HadMemory (Err refusal)
      → (value : FrameValue) → IsCanonicalFor value octets → ⊥
  refused_for octets refusal NotCanonical e is had value canonical =
      let flaw = is.0 e in marked_none frames Strict flaw.0 octets (Some refusal.place) refusal.place refl refl flaw.1 flaw.2 value canonical
  refused_for octets refusal OutOfMemory e is had value canonical = absurd (had e)
  refused_for octets refusal Short e is had value canonical = (is.1 had (λ n. let i : Short ≡ NotCanonical = sym e ∙ n in absurd (cc))).none value canonical.member
  refused_for octets refusal Trailing e is had value canonical = (is.1 had (λ n. let i : Trailing ≡ NotCanonical = sym e ∙ n in absurd (cc))).none value canonical.member
  refused_for octets refusal Version e is had value canonical = (is.1 had (λ n. let i : Version ≡ NotCanonical = sym e ∙ n in absurd (cc))).none value canonical.member
  refused_for octets refusal Address e is had value canonical = (is.1 had (λ n. let i : Address ≡ NotCanonical = sym e ∙ n in absurd (cc))).none value canonical.member
  refused_for octets refusal PduType e is had value canonical = (is.1 had (λ n. let i : PduType ≡ NotCanonical = sym e ∙ n in absurd (cc))).none value canonical.member
  refused_for octets refusal Window e is had value canonical = (is.1 had (λ n. let i : Window ≡ NotCanonical = sym e ∙ n in absurd (cc))).none value canonical.member
  refused_for octets refusal Tag e is had value canonical = (is.1 had (λ n. let i : Tag ≡ NotCanonical = sym e ∙ n in absurd (cc))).none value canonical.member
  refused_for octets refusal Length e is had value canonical = (is.1 had (λ n. let i : Length ≡ NotCanonical = sym e ∙ n in absurd (cc))).none value canonical.member
  refused_for octets refusal Content e is had value canonical = (is.1 had (λ n. let i : Content ≡ NotCanonical = sym e ∙ n in absurd (cc))).none value canonical.member
  refused_for octets refusal Depth e is had value canonical = (is.1 had (λ n. let i : Depth ≡ NotCanonical = sym e ∙ n in absurd (cc))).none value canonical.member

  pub decoded_strictly_gives : (octets : List ℕ) (item : Item) → IsDecodedStrictly octets item → HadMemory item → GivesItsValue IsCanonicalFor octets item
  decoded_strictly_gives octets (Ok frame) is had = strict_gives frames octets (Ok frame) is
  decoded_strictly_gives octets (Err refusal) is had = refused_for octets refusal refusal.why refl is had
