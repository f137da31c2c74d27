use Rattle.std.specs.Prelude.{refl}
use Rattle.std.specs.Cmp.Lexicographic.{bytes_decides}
use Rattle.std.proofs.Common.{◌∙◌, sym, ap, subst}
use Rattle.std.proofs.lemmas.Bool.Decides.{not_from_Decides}
use Rattle.bac_field_parts.specs.declared.names.Name.{Name}
use Rattle.bac_field_parts.specs.Names.{word_of}
use Rattle.bac_lines.specs.Scanning.{IsNamed}
use Rattle.bac_lines.proofs.NameLemmas.{numbers, found_in, number_name, number_found, number_named}
use Rattle.bac_lines.proofs.ScanLemmas.{nothing_open}
use Rattle.bac_lines.proofs.scanning.names.find_number_name.Goals as goal

pub returns-then-is_empty : goal.returns-then-is_empty
returns-then-is_empty c = record {
  some = number_found c.find_name.result c.args.word.now c.find_name.ensures.some;
  named = number_named c.find_name.result c.args.word.now c.args.ends.now c.find_name.ensures.some (λ id. nothing_open c.args.ends.now c.if-is_empty.ensures);
  found = λ n f named e.
      found_in numbers c.find_name.result c.args.word.now n refl c.find_name.ensures.some c.find_name.ensures.none
      (number_name n f (λ port. subst (λ (m : Name). IsNamed c.args.ends.now m) port named (nothing_open c.args.ends.now c.if-is_empty.ensures))) e;
}

pub returns : goal.returns
returns c = record {
  some = number_found c.find_name-2.result c.args.word.now c.find_name-2.ensures.some;
  named = number_named c.find_name-2.result c.args.word.now c.args.ends.now c.find_name-2.ensures.some
      (λ id. absurd (not_from_Decides _ (bytes_decides c.args.word.now c.as_slice.result.now) (sym c.if-eq.ensures) (id ∙ sym c.as_slice.ensures)));
  found = λ n f named e.
      found_in numbers c.find_name-2.result c.args.word.now n refl c.find_name-2.ensures.some c.find_name-2.ensures.none
      (number_name n f (λ port. not_from_Decides _ (bytes_decides c.args.word.now c.as_slice.result.now) (sym c.if-eq.ensures) (e ∙ ap word_of port ∙ sym c.as_slice.ensures))) e;
}
