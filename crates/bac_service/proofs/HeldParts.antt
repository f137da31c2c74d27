-- What is known of a value by its type alone, for what the structs of services are made of: each number fits its width,
-- each invariant holds, and of an option or a list this is known of what is in it.
use Rattle.std.proofs.Common.{w32}
use denote.RattleType.{RattleType}
use denote.Struct.Declared as struct_of
use denote.Enum.Declared as enum_of
use denote.Known.{Known, Knowns, nothing_known, uint_known, such_known, view_known, struct_known, enum_known}
use denote.Builtin.{u32}
use Rattle.std.specs.contracts.alloc.Global as global
use Rattle.std.specs.contracts.impls.GlobalAllocator.TheImpl as allocator
use Rattle.std.specs.contracts.option.Option as option
use Rattle.std.specs.contracts.vec.Vec as vec
use Rattle.std.specs.formers.vec.Vec as former
use Rattle.bac_value.specs.contracts.types.object_identifier.ObjectId as object_id
use Rattle.bac_value.specs.contracts.types.instance.Instance as instance
use Rattle.bac_value.specs.contracts.types.priority.Priority as priority
use Rattle.bac_data.specs.contracts.open_value.Any as any

-- ---- of what other types hold

abbrev pub some_known : (R : RattleType) → Known R → Known (option.the_field R).row
some_known R k = enum_known (enum_of.shape (option.the_type R)) (tt, ((k, tt), tt))

abbrev pub items_known : (R : RattleType) → Known R → Known (vec.the_row R global.the_row allocator.ghosts)
items_known R k = former.the_facts R global.the_row allocator.ghosts k (nothing_known global.the_row)

abbrev pub fields_known : (T : struct_of.Declared) → Knowns (struct_of.shape T).fields → Known (struct_of.field T).row
fields_known T k = struct_known (struct_of.shape T) k

-- ---- of the values of other crates

-- these are the view of fields of which the invariant holds
abbrev pub object_known : Known object_id.the_row
object_known = such_known _ (nothing_known _) _ _

abbrev pub instance_known : Known instance.the_row
instance_known = such_known _ (nothing_known _) _ _

abbrev pub priority_known : Known priority.the_row
priority_known = such_known _ (nothing_known _) _ _

abbrev pub any_known : Known any.the_row
any_known = view_known any.TheInside.the_row (nothing_known any.TheInside.the_row) _ _ any.the_view any.the_invariant

abbrev pub index_known : Known (option.the_field u32).row
index_known = some_known u32 (uint_known w32)
