use Rattle.std.specs.Prelude.{◌<◌, ◌^◌, [], refl}
use Rattle.std.proofs.Common.{arith}
use Rattle.std.proofs.lemmas.Fmt.{decimal_nonempty}
use Rattle.bac_field_parts.specs.declared.names.Name.TheVariants as name
use Rattle.bac_lines.specs.Scanning.{is_decimal}
use Rattle.bac_fields.specs.Line.{as_network}
use Rattle.bac_lines.specs.Found.{sort_of}
use Rattle.bac_lines.proofs.StartLemmas.{not_end_sort}
use Rattle.bac_lines.proofs.ScanLemmas.{clear_of, pair_is}
use Rattle.bac_lines.proofs.scanning.brackets.add_network.Goals as goal

pub returns-in_default-2-clause-found : goal.returns-in_default-2-clause-found
returns-in_default-2-clause-found c ends v after more f t e l =
    let small : v.number < 2 ^ 64 = omega (arith, t.0) in
    let p = pair_is (c.in-Some.ensures.found v.number more small (clear_of is_decimal refl refl refl more e) l) in
    absurd (omega (arith, p.1, c.if-digits-gt0.false, decimal_nonempty v.number small))

pub returns-in_ok-add-in-Some-clause-sound : goal.returns-in_ok-add-in-Some-clause-sound
returns-in_ok-add-in-Some-clause-sound c ends = record {
  field = record { name = name.ListedNetwork; number = c.in-Some.number; head = []; contents = [] };
  no_end = λ e. not_end_sort (sort_of as_network) refl e;
  token = (omega (arith, c.if-number-le65535.true), refl);
  is_text = c.in-Some.ensures.sound.1;
  begun = refl;
  added = c.in_ok-add-in-Some.ensures.added (record { name = name.ListedNetwork; number = c.in-Some.number; head = []; contents = [] }) refl refl refl;
}
