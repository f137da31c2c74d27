use Rattle.std.proofs.Common.{sym, ◌∙◌, subst}
use Rattle.std.proofs.lemmas.Bool.{and_parts, both_ways}
use Rattle.std.proofs.lemmas.Result.{IfOk-weaker, IfErr-weaker}
use Rattle.std.specs.Prelude.{Bool}
use Rattle.bac_field_parts.specs.Symbols.{Made, taken_symbols, symbols_in}
use Rattle.bac_field_parts.specs.Laws.Making.{stop_then, made_first, made_second, same_end, first_stopped, second_stopped}
use Rattle.bac_field_parts.proofs.making.EitherFromFields.make.Goals as goal

pub returns-then-begins-clause-made : goal.returns-then-begins-clause-made
returns-then-begins-clause-made g c = IfOk-weaker c.make.result _ _ (λ n m. made_first _ _ _ _ c.args.octets.now c.args.fields.now _ _ _ _ m) c.make.ensures.made

pub returns-then-begins-clause-stopped : goal.returns-then-begins-clause-stopped
returns-then-begins-clause-stopped g c =
    let sound = and_parts _ _ c.requires in
    let rest = and_parts _ _ sound.1 in
    let first = g.met.P.FromFields.lawful c.args.self.now.0 sound.0 in
    let second = g.met.Q.FromFields.lawful c.args.self.now.1 rest.0 in
    let d = (and_parts _ _ (and_parts _ _ rest.1).1).1 in
    let begins = sym c.begins.ensures ∙ c.if-begins.true in
    IfErr-weaker c.make.result _ _ (λ fault. stop_then fault _ _ (λ p. first_stopped _ _ _ _ c.args.octets.now c.args.fields.now _ _ first second d c.lead.result p c.lead.ensures begins)) c.make.ensures.stopped

pub returns-else-begins-clause-made : goal.returns-else-begins-clause-made
returns-else-begins-clause-made g c =
    let sound = and_parts _ _ c.requires in
    let rest = and_parts _ _ (and_parts _ _ sound.1).1 in
    let same = same_end (g.P.FromFields.at_end c.args.self.now.0) (g.Q.FromFields.at_end c.args.self.now.1) rest.0 (and_parts _ _ rest.1).0 in
    IfOk-weaker c.make-else-begins.result _ _
    (λ n m. made_second _ _ _ _ c.args.octets.now c.args.fields.now _ _ _ _
    (subst (λ (b : Bool). Made (g.Q.FromFields.said c.args.self.now.1) (g.Q.FromFields.spells c.args.self.now.1) (symbols_in c.args.octets.now c.args.fields.now) (taken_symbols b n) c.args.out.now.items c.make-else-begins.new.out.items) same m))
    c.make-else-begins.ensures.made

pub returns-else-begins-clause-stopped : goal.returns-else-begins-clause-stopped
returns-else-begins-clause-stopped g c =
    let sound = and_parts _ _ c.requires in
    let rest = and_parts _ _ sound.1 in
    let first = g.met.P.FromFields.lawful c.args.self.now.0 sound.0 in
    let second = g.met.Q.FromFields.lawful c.args.self.now.1 rest.0 in
    let d = (and_parts _ _ (and_parts _ _ rest.1).1).1 in
    let begins = sym c.begins.ensures ∙ c.if-begins.false in
    IfErr-weaker c.make-else-begins.result _ _
    (λ fault. stop_then fault _ _ (λ p. second_stopped _ _ _ _ c.args.octets.now c.args.fields.now _ _ first second d c.lead.result p c.lead.ensures (λ h. both_ways _ begins h))) c.make-else-begins.ensures.stopped
