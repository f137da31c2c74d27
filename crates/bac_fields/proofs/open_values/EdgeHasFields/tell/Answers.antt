use Rattle.std.proofs.Common.{◌≡◌, ◌∙◌, ℕ, Bool, true, false, length, refl, sym}
use Rattle.bac_tag.specs.Writing.{narrow_opening}
use Rattle.bac_field_parts.specs.declared.names.Name.{Name}
use Rattle.bac_field_parts.specs.Fields.{edge_field}
use Rattle.bac_fields.proofs.open_values.EdgeHasFields.tell.Goals as goal

edge_name : (opens : Bool) (name : Name) (tag number : ℕ) → (edge_field opens name tag number).name ≡ name
edge_name true name tag number = refl
edge_name false name tag number = refl

edge_number : (opens : Bool) (name : Name) (tag number : ℕ) → (edge_field opens name tag number).number ≡ number
edge_number true name tag number = refl
edge_number false name tag number = refl

edge_head : (opens : Bool) (name : Name) (tag number size : ℕ) → ((class lvt : ℕ) → size ≡ length (narrow_opening class tag lvt)) → length (edge_field opens name tag number).head ≡ size
edge_head true name tag number size e = sym (e 1 6)
edge_head false name tag number size e = sym (e 1 7)

edge_contents : (opens : Bool) (name : Name) (tag number : ℕ) → length (edge_field opens name tag number).contents ≡ 0
edge_contents true name tag number = refl
edge_contents false name tag number = refl

pub returns : goal.returns
returns g c =
    let part = c.args.self.now in
    c.write_field.ensures _ (edge_name _ part.0 part.1 part.2) (edge_number _ part.0 part.1 part.2 ∙ sym c.from.ensures)
    (edge_head _ part.0 part.1 part.2 c.tag_len.result c.tag_len.ensures.tag) (edge_contents _ part.0 part.1 part.2)
