-- What is said after a field is added.
use Rattle.std.specs.Prelude.{◌≡◌, ℕ, ◌+◌, ◌-◌, ◌≤◌, List, [], ◌∷◌, ◌++◌, length, take, drop, Bool, true, false, nat_le, if◌then◌else◌, Some, None, refl}
use Rattle.std.proofs.Common.{sym, ◌∙◌, ap, arith, append_assoc}
use Rattle.std.proofs.Math.Seq.{drop-append_seam, take-append_seam}
use Rattle.std.proofs.lemmas.List.{length-append}
use Rattle.std.proofs.lemmas.Bool.{le-leb}
use Rattle.bac_field_parts.specs.declared.field.Field.{Field}
use Rattle.bac_field_parts.specs.declared.names.Name.{Name}
use Rattle.bac_field_parts.specs.Names.{number_of}
use Rattle.bac_field_parts.specs.Fields.{FieldValue}
use Rattle.bac_field_parts.specs.Symbols.{has_contents, contents_in}
use Rattle.bac_lines.specs.declared.said.Said.{Said}
use Rattle.bac_lines.specs.Found.{Adds}

-- contents that are where a field says, if its name has any
held_if : (has : Bool) (before contents more : List ℕ) (start count : ℕ) → length before ≡ start → count ≡ length contents →
    (if has then (if nat_le (start + 0 + count) (length ((before ++ contents) ++ more)) then Some (take count (drop (start + 0) ((before ++ contents) ++ more))) else None) else Some []) ≡ Some (if has then contents else [])
held_if false before contents more start count s n = refl
held_if true before contents more start count s n =
    let octets = (before ++ contents) ++ more in
    let seam : start + 0 ≡ length before = omega arith in
    let dropped : drop (start + 0) octets ≡ contents ++ more = ap (λ k. drop k octets) seam ∙ ap (drop (length before)) (append_assoc before contents more) ∙ drop-append_seam before (contents ++ more) in
    let taken : take count (contents ++ more) ≡ contents = ap (λ k. take k (contents ++ more)) n ∙ take-append_seam contents more in
    let within : start + 0 + count ≤ length octets = omega (arith, length-append (before ++ contents) more, length-append before contents) in
    let fits : nat_le (start + 0 + count) (length octets) ≡ true = le-leb (start + 0 + count) (length octets) within in
    rw fits (ap Some (ap (take count) dropped ∙ taken))

-- the contents of a field are those after what was there
pub adds_since : (before now new : Said) (v : FieldValue) (name : Name) (number start count : ℕ) →
    v.name ≡ name → v.number ≡ number → length before.contents.items ≡ start → now.fields.items ≡ before.fields.items → now.contents.items ≡ before.contents.items ++ v.contents →
    count ≡ length now.contents.items - start → new.fields.items ≡ now.fields.items ++ (record { name = number_of name; number = number; place = start; head = 0; length = count }) ∷ [] → new.contents.items ≡ now.contents.items → Adds v before new
adds_since before now new v name number start count is_name is_number starts same_fields holds is_count fields contents =
    let field : Field = record { name = number_of name; number = number; place = start; head = 0; length = count } in
    let all : new.contents.items ≡ before.contents.items ++ v.contents = contents ∙ holds in
    let counted : count ≡ length v.contents = omega (arith, length-append before.contents.items v.contents, ap length holds) in
    record {
      field = field;
      contents = v.contents;
      fields_are = fields ∙ ap (λ (l : List Field). l ++ field ∷ []) same_fields;
      contents_are = all;
      is_named = ap number_of (sym is_name);
      is_numbered = sym is_number;
      holds = λ more.
          ap (λ (l : List ℕ). contents_in (l ++ more) field) all ∙ held_if (has_contents (number_of name)) before.contents.items v.contents more start count starts counted
          ∙ ap (λ (n : Name). Some (if has_contents (number_of n) then v.contents else [])) (sym is_name);
    }
