use Rattle.std.specs.Prelude.{◌≡◌, ◌≤◌, ◌+◌, ◌-◌, ◌++◌, [], ◌∷◌, ℕ, List, Option, Some, None, length, take, drop, refl}
use Rattle.std.proofs.Common.{ap, sym, ◌∙◌, arith, append_assoc, get_or}
use Rattle.std.proofs.Math.Seq.{drop-append_seam, take-length}
use Rattle.std.proofs.lemmas.List.{length-append}
use Rattle.bac_text.specs.Words.{number}
use Rattle.bac_text.specs.FrameText.{address_text}
use Rattle.bac_lines.proofs.Digits.{sign_join}
use Rattle.bac_lines.proofs.LinkLemmas.{same_pair, with_contents}
use Rattle.bac_lines.proofs.scanning.values.add_addressed.Goals as goal

-- the line after its front and a sign
after_sign : (line front rest : List ℕ) (sign digits : ℕ) → line ≡ front ++ (sign ∷ rest) → length front ≡ digits →
    take (length (take (length line - digits) (drop digits line)) - 1) (drop 1 (take (length line - digits) (drop digits line))) ≡ rest
after_sign line front rest sign digits is ends =
    let dropped : drop digits line ≡ sign ∷ rest = ap (λ n. drop n line) (sym ends) ∙ ap (drop (length front)) is ∙ drop-append_seam front (sign ∷ rest) in
    let count : length line - digits ≡ length (sign ∷ rest) = omega (arith, length-append front (sign ∷ rest), ap length is) in
    let whole : take (length line - digits) (drop digits line) ≡ sign ∷ rest = ap (take (length line - digits)) dropped ∙ ap (λ n. take n (sign ∷ rest)) count ∙ take-length (sign ∷ rest) in
    let one_less : length (sign ∷ rest) - 1 ≡ length rest = omega arith in
    ap (λ (l : List ℕ). take (length l - 1) (drop 1 l)) whole ∙ ap (λ n. take n rest) one_less ∙ take-length rest

-- a line that begins with this sign
begins_with : (line : List ℕ) (sign : ℕ) → 1 ≤ length line → get_or line 0 0 ≡ sign → line ≡ sign ∷ take (length line - 1) (drop 1 line)
begins_with [] sign some is = absurd (omega (arith, some))
begins_with (x ∷ line) sign some is =
    let less : length (x ∷ line) - 1 ≡ length line = omega arith in
    ap (λ (y : ℕ). y ∷ line) is ∙ ap (λ (l : List ℕ). sign ∷ l) (sym (ap (λ n. take n line) less ∙ take-length line))

same_some : (o : Option ℕ) (m n : ℕ) → o ≡ Some m → o ≡ Some n → m ≡ n
same_some o m n e f = cc

not_both : (o : Option ℕ) (n : ℕ) → o ≡ None → o ≡ Some n → ⊥
not_both o n e f = cc

pub returns-in_default-3-clause-found : goal.returns-in_default-3-clause-found
returns-in_default-3-clause-found c = λ v more is low has octets ended line.
    let after = address_text v.contents ++ more in
    let shown : c.args.line.now ≡ number v.number ++ (47 ∷ after) = line ∙ append_assoc (number v.number) (47 ∷ address_text v.contents) more in
    let network = same_pair c.find_number.result _ _ _ _ (c.find_number.ensures.found v.number (47 ∷ after) (omega (arith, low)) refl shown) c.in-Some.is in
    let address = c.in_ok-taken.ensures.found v.contents more octets ended (after_sign c.args.line.now (number v.number) after 47 c.in-Some.digits shown network.1) in
    absurd (not_both c.in_ok-taken.field-0 _ c.in_default-3.is address.0)

pub returns-clause-found : goal.returns-clause-found
returns-clause-found c = λ v more is low has octets ended line.
    let after = address_text v.contents ++ more in
    let shown : c.args.line.now ≡ number v.number ++ (47 ∷ after) = line ∙ append_assoc (number v.number) (47 ∷ address_text v.contents) more in
    let network = same_pair c.find_number.result _ _ _ _ (c.find_number.ensures.found v.number (47 ∷ after) (omega (arith, low)) refl shown) c.in-Some.is in
    let address = c.in_ok-taken.ensures.found v.contents more octets ended (after_sign c.args.line.now (number v.number) after 47 c.in-Some.digits shown network.1) in
    let taken : length (address_text v.contents) ≡ c.in-Some-2.taken = same_some c.in_ok-taken.field-0 _ _ address.0 c.in-Some-2.is in
    let all : c.in-Some.digits + 1 + c.in-Some-2.taken ≡ length (number v.number ++ (47 ∷ address_text v.contents)) = omega (arith, length-append (number v.number) (47 ∷ address_text v.contents), taken, network.1) in
    (ap Some all, c.in_ok-add_since.ensures.added c.args.said.now v is network.0 (sym (c.len-start.ensures ∙ c.args.said.now.contents.ok.0)) refl address.1)

pub returns-clause-sound : goal.returns-clause-sound
returns-clause-sound c = λ held.
    let added = rw c.in-Some-2.is at c.in_ok-taken.ensures.sound in
    let behind = take (length c.args.line.now - c.in-Some.digits) (drop c.in-Some.digits c.args.line.now) in
    let slash : behind ≡ 47 ∷ take (length behind - 1) (drop 1 behind) = begins_with behind 47 c.in-47.len_at_least (omega arith) in
    record {
      field = with_contents c.args.name c.in-Some.network added.0;
      has = (refl, (omega (arith, c.if-network-gt65535.false), added.1.0));
      is_text = sign_join c.args.line.now _ _ _ c.in-Some.digits c.in-Some-2.taken c.in-Some.ensures.sound.1 slash added.1.1.1;
      added = c.in_ok-add_since.ensures.added c.args.said.now _ refl refl (sym (c.len-start.ensures ∙ c.args.said.now.contents.ok.0)) refl added.1.1.0;
    }
