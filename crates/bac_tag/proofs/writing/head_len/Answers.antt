use Rattle.std.proofs.Common.{inl, inr, subst, sym, ◌∙◌, arith}
use Rattle.bac_tag.specs.declared.heads.TagHead.{TagHead}
use Rattle.bac_tag.specs.Spelling.{IsLeast}
use Rattle.bac_tag.specs.Heads.{Heads}
use Rattle.bac_tag.proofs.HeadLenLemmas.{length_of_app, length_of_ctx, length_of_bool, length_of_open, length_of_close}
use Rattle.bac_tag.proofs.writing.head_len.Goals as goal

pub returns-in-AppBool : goal.returns-in-AppBool
returns-in-AppBool c = λ b p. sym (length_of_bool c.in-AppBool.field-0 b (subst (λ (h : TagHead). IsLeast (Heads h) b) c.in-AppBool.is p))

pub returns-in-Open : goal.returns-in-Open
returns-in-Open c = λ b p. elim c.in-Open.is [
  | inl is ↦ c.opening_len.ensures ∙ sym (length_of_open c.in-Open.number b (subst (λ (h : TagHead). IsLeast (Heads h) b) is p))
  | inr is ↦ c.opening_len.ensures ∙ sym (length_of_close c.in-Open.number b (subst (λ (h : TagHead). IsLeast (Heads h) b) is p))
]

pub returns-in-App : goal.returns-in-App
returns-in-App c = λ b p. elim c.in-App.is [
  | inl is ↦ omega (arith, c.opening_len-in-App.ensures, c.length_len.ensures, length_of_app c.in-App.number c.in-App.len b (subst (λ (h : TagHead). IsLeast (Heads h) b) is p))
  | inr is ↦ omega (arith, c.opening_len-in-App.ensures, c.length_len.ensures, length_of_ctx c.in-App.number c.in-App.len b (subst (λ (h : TagHead). IsLeast (Heads h) b) is p))
]
