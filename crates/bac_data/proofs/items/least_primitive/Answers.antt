use Rattle.std.proofs.Common.{◌≡◌, ℕ, refl, ◌-◌, ◌/◌, List, ◌++◌, take, drop, length, sym, ◌∙◌, ap, subst, arith, take-add}
use Rattle.std.proofs.lemmas.List.{append-nil, take_rest}
use Rattle.bac_tag.specs.Heads.{Heads}
use Rattle.bac_tag.specs.declared.heads.TagHead.TheVariants.{App}
use Rattle.bac_value.specs.PrimContents.{prim_written}
use Rattle.bac_value.specs.Laws.Prim.{prim_once}
use Rattle.bac_data.proofs.items.least_primitive.Goals as goal

pub returns-clause-found : goal.returns-clause-found
returns-clause-found c =
    let is = c.are_written.ensures.0 c.if-not-are_written.false in
    let lookup = rw take_rest at c.in_ok-contents.ensures.lookup in
    let all : c.in_ok-size.size ≡ c.in_ok-size.size - 0 = omega arith in
    let long : c.in_ok-size.size ≡ length c.in_ok-contents.contents.now = omega (arith, lookup.0.3) in
    record {
      is_item = (omega (arith, c.if-number-gt12.false), c.if-number-eq1.false, (is.value, is.spelled), (λ t. is, λ w. refl));
      primitive = tt;
      lies = record {
        within = omega arith;
        headed = subst (λ (n : ℕ). Heads (App (c.in_ok-number.field-0.now / 16) n) (take 1 c.args.octets.now)) long c.in_ok-size.ensures.some.least.member;
        octets_are = take-add 1 c.in_ok-size.size c.args.octets.now ∙ ap (λ (l : List ℕ). take 1 c.args.octets.now ++ l) (ap (λ (n : ℕ). take n (drop 1 c.args.octets.now)) all ∙ sym lookup.0.2);
      };
      least = λ prim s. is.is ∙ ap prim_written (prim_once is.value prim c.in_ok-contents.contents.now (is.spelled.0 ∙ sym s.0) is.spelled.1 s.1);
    }

pub returns-then-number-eq1-clause-found : goal.returns-then-number-eq1-clause-found
returns-then-number-eq1-clause-found c =
    let short = c.in_ok-bit.ensures.some in
    record {
      is_item = tt;
      primitive = tt;
      lies = record { within = omega arith; headed = short.least.member; octets_are = sym (append-nil (take 1 c.args.octets.now)) };
      least = tt;
    }
