use Rattle.std.proofs.Common.{◌≡◌, ◌∙◌, ℕ, Bool, true, false, List, refl, sym}
use Rattle.std.specs.Prelude.{Result, Ok, Err, is_ok, MatchResult, IsUtf8}
use Rattle.std.specs.Str.{is_utf8}
use Rattle.std.proofs.lemmas.Str.{IsUtf8-from_is_utf8, is_utf8-from_IsUtf8}
use Rattle.bac_lines.proofs.scanning.strings.is_utf8.Goals as goal

not_utf8 : (octets : List ℕ) (told : Bool) → is_utf8 octets ≡ told → ¬ IsUtf8 octets → false ≡ told
not_utf8 octets true is none = absurd (none (IsUtf8-from_is_utf8 octets is))
not_utf8 octets false is none = refl

told : {T E : Type 0} (r : Result T E) (octets : List ℕ) (S : T → Type 0) (F : E → Type 0) → MatchResult r (λ text. S text × IsUtf8 octets) (λ e. ¬ (IsUtf8 octets) × F e) → is_ok r ≡ is_utf8 octets
told (Ok text) octets S F h = sym (is_utf8-from_IsUtf8 octets h.1)
told (Err e) octets S F h = not_utf8 octets (is_utf8 octets) refl h.0

pub returns : goal.returns
returns c = c.is_ok.ensures.value ∙ told c.from_utf8.result c.args.octets.now _ _ c.from_utf8.ensures.cases
