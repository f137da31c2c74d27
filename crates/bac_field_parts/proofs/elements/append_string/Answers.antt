use Rattle.std.proofs.Common.{◌≡◌, ◌∙◌, ◌-◌, ◌++◌, List, ℕ, sym, ap, subst, arith, length, take, drop, [], ◌∷◌, refl}
use Rattle.std.specs.Prelude.{Bool, IsTrue, ◌↔◌}
use Rattle.std.specs.Option.{option_to_list}
use Rattle.std.proofs.lemmas.Bool.{both_ways}
use Rattle.std.proofs.lemmas.List.{take_rest, length-append}
use Rattle.bac_tag.specs.declared.heads.TagHead.TheVariants.{App}
use Rattle.bac_tag.specs.Heads.{Heads}
use Rattle.bac_tag.specs.Spelling.{IsLeast}
use Rattle.bac_value.specs.PrimContents.{IsWrittenOf}
use Rattle.bac_productions.specs.Laws.Least.{extends_more}
use Rattle.bac_field_parts.specs.Laws.Strings.{none_first, none_long, none_longer, none_written, written_made}
use Rattle.bac_field_parts.proofs.elements.append_string.Goals as goal

pub returns-then-contents-gt-LONGEST-clause-none : goal.returns-then-contents-gt-LONGEST-clause-none
returns-then-contents-gt-LONGEST-clause-none g c none = none_long _ _ _ _ _ _ g.met.S.StringType.is_string c.args.given c.args.contents.now (omega (arith, c.if-contents-gt-LONGEST.true))

pub returns-in_default-clause-none : goal.returns-in_default-clause-none
returns-in_default-clause-none g c none = none_first _ _ _ _ _ _ g.met.S.StringType.is_string c.args.given c.args.contents.now (sym c.first.ensures ∙ c.in_default.is)

pub returns-then-len-gt-LONGEST-clause-none : goal.returns-then-len-gt-LONGEST-clause-none
returns-then-len-gt-LONGEST-clause-none g c none =
    none_longer _ _ _ _ _ _ g.met.S.StringType.is_string c.args.given c.args.contents.now c.in-Some.first (sym c.first.ensures ∙ c.in-Some.is) (omega (arith, c.joined_len-len.ensures, c.if-len-gt-LONGEST.true))

-- what is behind the head
behind : (front rest : List ℕ) → drop (length front) (front ++ rest) ≡ rest
behind [] rest = refl
behind (x ∷ front) rest = behind front rest

tail : (all front rest : List ℕ) (start : ℕ) → all ≡ front ++ rest → start ≡ length front → take (length all - start) (drop start all) ≡ rest
tail all front rest start e is = take_rest all start ∙ ap (λ (n : ℕ). drop n all) is ∙ ap (λ (l : List ℕ). drop (length front) l) e ∙ behind front rest

-- whether the contents are written
told : (number app : ℕ) (slice rest : List ℕ) (result : Bool) → slice ≡ rest → number ≡ app → (IsTrue result ↔ IsWrittenOf number slice) → IsTrue result ↔ IsWrittenOf app rest
told number app slice rest result e is h = subst (λ (n : ℕ). IsTrue result ↔ IsWrittenOf n rest) is (subst (λ (l : List ℕ). IsTrue result ↔ IsWrittenOf number l) e h)

pub returns-clause-made : goal.returns-clause-made
returns-clause-made g c written =
    let a = c.in_ok-append_head.ensures.ok in
    let rest = option_to_list c.in-Some.first ++ c.args.contents.now in
    let joined = c.in_ok-append_joined.ensures.ok in
    let slice = tail c.deref.result.now c.append_head.new.out.items rest c.len-start.result (c.deref.ensures.value ∙ joined) (c.len-start.ensures ∙ c.append_head.new.out.ok.0) in
    let w = (told c.APP-2.result g.S.StringType.APP _ rest c.are_written.result slice c.APP-2.ensures c.are_written.ensures).0 written in
    let size : c.joined_len-len.result ≡ length rest = omega (arith, c.joined_len-len.ensures, length-append (option_to_list c.in-Some.first) c.args.contents.now) in
    written_made _ _ _ _ _ _ g.met.S.StringType.is_string c.args.given c.args.contents.now c.in-Some.first a.more c.args.out.now.items _ c.requires (sym c.first.ensures ∙ c.in-Some.is) w
    (subst (λ (n : ℕ). IsLeast (Heads (App n (length rest))) a.more) c.APP.ensures (subst (λ (n : ℕ). IsLeast (Heads (App c.APP.result n)) a.more) size a.is_least)) (joined ∙ ap (λ (l : List ℕ). l ++ rest) a.new_is)

pub returns-clause-none : goal.returns-clause-none
returns-clause-none g c none =
    let rest = option_to_list c.in-Some.first ++ c.args.contents.now in
    let joined = c.in_ok-append_joined.ensures.ok in
    let slice = tail c.deref.result.now c.append_head.new.out.items rest c.len-start.result (c.deref.ensures.value ∙ joined) (c.len-start.ensures ∙ c.append_head.new.out.ok.0) in
    none_written _ _ _ _ _ _ g.met.S.StringType.is_string c.args.given c.args.contents.now c.in-Some.first (sym c.first.ensures ∙ c.in-Some.is)
    (λ w. both_ways _ none ((told c.APP-2.result g.S.StringType.APP _ rest c.are_written.result slice c.APP-2.ensures c.are_written.ensures).1 w))

pub first-requires : goal.first-requires
first-requires g c = c.if-contents-gt-LONGEST.false

pub joined_len-len-requires : goal.joined_len-len-requires
joined_len-len-requires g c = c.if-contents-gt-LONGEST.false

pub append_head-requires : goal.append_head-requires
append_head-requires g c = rw c.APP.ensures g.met.S.StringType.is_string.app_fits

pub are_written-requires : goal.are_written-requires
are_written-requires g c = record { number = rw c.APP-2.ensures g.met.S.StringType.is_string.app_fits.0 }

pub returns-in_err-append_joined-clause-kept : goal.returns-in_err-append_joined-clause-kept
returns-in_err-append_joined-clause-kept g c = let head = c.in_ok-append_head.ensures.ok in extends_more _ _ _ (head.more, head.new_is) c.in_err-append_joined.ensures.kept

pub returns-clause-kept : goal.returns-clause-kept
returns-clause-kept g c = let head = c.in_ok-append_head.ensures.ok in extends_more _ _ _ (head.more, head.new_is) c.in_ok-append_joined.ensures.kept
