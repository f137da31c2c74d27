use Rattle.std.specs.Prelude.{IsTrue}
use Rattle.std.proofs.lemmas.Bool.{and_parts, leb-true}
use Rattle.std.proofs.lemmas.Result.{IfOk-weaker, IfErr-weaker}
use Rattle.bac_tag.specs.declared.heads.TagHead.{TagHead}
use Rattle.bac_tag.specs.declared.heads.TagHead.TheVariants.{Open, Close}
use Rattle.bac_tag.specs.Heads.{IsValid}
use Rattle.bac_productions.specs.Laws.Least.{extends_more}
use Rattle.bac_field_parts.specs.Laws.Making.{stop_then}
use Rattle.bac_field_parts.specs.Laws.Tagged.{after_made, after_stopped}
use Rattle.bac_field_parts.specs.Symbols.{is_edge}
use Rattle.bac_field_parts.proofs.tagged.AfterFromFields.make.Goals as goal

pub returns-in-Ok-clause-made : goal.returns-in-Ok-clause-made
returns-in-Ok-clause-made g c = IfOk-weaker c.make.result _ _ (λ taken. after_made c.args.self.now.0 _ _ _ _ _ _ _ c.in-Ok.ensures.ok) c.make.ensures.made

pub returns-in-Ok-clause-stopped : goal.returns-in-Ok-clause-stopped
returns-in-Ok-clause-stopped g c =
    let edge = (and_parts _ _ c.requires).0 in
    IfErr-weaker c.make.result _ _ (λ fault. stop_then fault _ _ (λ p. after_stopped c.args.self.now.0 _ _ edge _ p)) c.make.ensures.stopped

pub make-requires : goal.make-requires
make-requires g c = (and_parts _ _ c.requires).1

-- a tag has room for the number
edge_valid : (t : TagHead) → IsTrue (is_edge t) → IsValid t
edge_valid (Open n) h = leb-true n 254 h
edge_valid (Close n) h = leb-true n 254 h
edge_valid _ h = absurd (cc)

pub append_head-requires : goal.append_head-requires
append_head-requires g c = edge_valid c.args.self.now.0 (and_parts _ _ c.requires).0

pub returns-in-Ok-clause-kept : goal.returns-in-Ok-clause-kept
returns-in-Ok-clause-kept g c = let head = c.in-Ok.ensures.ok in extends_more _ _ _ (head.more, head.new_is) c.make.ensures.kept
