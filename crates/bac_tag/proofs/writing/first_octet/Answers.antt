use Rattle.std.proofs.Common.{subst, sym, arith}
use Rattle.bac_tag.specs.declared.heads.TagHead.{TagHead}
use Rattle.bac_tag.specs.Spelling.{IsLeast}
use Rattle.bac_tag.specs.Heads.{Heads, LengthFits}
use Rattle.bac_tag.proofs.HeadLenLemmas.{first_of_app, first_of_bool, first_of_ctx, first_of_open, first_of_close}
use Rattle.bac_tag.proofs.writing.first_octet.Goals as goal

pub returns-in-App-clause-first : goal.returns-in-App-clause-first
returns-in-App-clause-first c = λ b p.
    omega (arith, c.narrow_initial.ensures, c.length_lvt.ensures.lvt, first_of_app c.in-App.number c.in-App.len b (subst (λ (h : TagHead). IsLeast (Heads h) b) c.in-App.is p))

pub returns-in-AppBool-clause-first : goal.returns-in-AppBool-clause-first
returns-in-AppBool-clause-first c = λ b p.
    omega (arith, c.narrow_initial-in-AppBool.ensures, c.from.ensures, first_of_bool c.in-AppBool.value b (subst (λ (h : TagHead). IsLeast (Heads h) b) c.in-AppBool.is p))

pub returns-in-Ctx-clause-first : goal.returns-in-Ctx-clause-first
returns-in-Ctx-clause-first c = λ b p.
    omega (arith, c.narrow_initial-in-Ctx.ensures, c.length_lvt-in-Ctx.ensures.lvt, first_of_ctx c.in-Ctx.number c.in-Ctx.len b (subst (λ (h : TagHead). IsLeast (Heads h) b) c.in-Ctx.is p))

pub returns-in-Open-clause-first : goal.returns-in-Open-clause-first
returns-in-Open-clause-first c = λ b p.
    omega (arith, c.narrow_initial-in-Open.ensures, first_of_open c.in-Open.number b (subst (λ (h : TagHead). IsLeast (Heads h) b) c.in-Open.is p))

pub returns-in-Close-clause-first : goal.returns-in-Close-clause-first
returns-in-Close-clause-first c = λ b p.
    omega (arith, c.narrow_initial-in-Close.ensures, first_of_close c.in-Close.number b (subst (λ (h : TagHead). IsLeast (Heads h) b) c.in-Close.is p))

pub returns-in-App-clause-fits : goal.returns-in-App-clause-fits
returns-in-App-clause-fits c = subst LengthFits (sym c.in-App.is) c.length_lvt.ensures.fits

pub returns-in-Ctx-clause-fits : goal.returns-in-Ctx-clause-fits
returns-in-Ctx-clause-fits c = subst LengthFits (sym c.in-Ctx.is) c.length_lvt-in-Ctx.ensures.fits
