use Rattle.std.proofs.Common.{◌≡◌, ◌+◌, ◌≤◌, true, ℕ, List, take, drop, length, refl, sym, ◌∙◌, ap, subst, arith, add-zero}
use Rattle.std.proofs.lemmas.List.{take_rest}
use Rattle.bac_tag.specs.Heads.{Heads}
use Rattle.bac_tag.specs.Octets.{IsOctets}
use Rattle.bac_tag.specs.Laws.Octets.{octets_at, octets_drop, octets_take}
use Rattle.bac_tag.specs.Spelling.{IsLeast}
use Rattle.bac_tag.specs.declared.heads.TagHead.{TagHead}
use Rattle.bac_tag.specs.declared.heads.TagHead.TheVariants.{App, Ctx, Open, Close}
use Rattle.bac_data.specs.declared.items.Item.TheVariants as item
use Rattle.bac_data.proofs.StandingLeast.{stands_least, written_least, front_is}
use Rattle.bac_data.proofs.items.quick_least.Goals as goal

-- what is known of the head that was read
headed : (head same : TagHead) (octets : List ℕ) → head ≡ same → Heads head octets → Heads same octets
headed head same octets e h = subst (λ (k : TagHead). Heads k octets) e h

told : (head same : TagHead) (n : ℕ) → head ≡ same → ((b : List ℕ) → IsLeast (Heads head) b → n ≡ length b) → (b : List ℕ) → IsLeast (Heads same) b → n ≡ length b
told head same n e t b p = t b (subst (λ (k : TagHead). IsLeast (Heads k) b) (sym e) p)

pub returns-else-number-closing : goal.returns-else-number-closing
returns-else-number-closing c =
    let t = c.in_ok-head.ensures in
    let same : c.in-Close.number ≡ c.args.closing = omega arith in
    let long : c.in_ok-head.start ≡ c.head_len.result = omega arith in
    let h = headed c.in_ok-head.head (Close c.in-Close.number) (take c.in_ok-head.start c.args.octets.now) c.in-Close.is t.spelled in
    stands_least c.args.room c.args.closing c.args.octets.now (item.Close c.in-Close.number) c.in_ok-head.start 0 c.in_ok-head.start c.head_len.result h.valid same t.within h
    c.head_len.ensures long tt (omega arith) refl (sym (add-zero c.in_ok-head.start))

pub returns-else-not-room : goal.returns-else-not-room
returns-else-not-room c =
    let t = c.in_ok-head.ensures in
    let long : c.in_ok-head.start ≡ c.head_len-in-Open.result = omega arith in
    let h = headed c.in_ok-head.head (Open c.in-Open.number) (take c.in_ok-head.start c.args.octets.now) c.in-Open.is t.spelled in
    stands_least c.args.room c.args.closing c.args.octets.now (item.Open c.in-Open.number) c.in_ok-head.start 0 c.in_ok-head.start c.head_len-in-Open.result h.valid c.if-not-room.false t.within h
    c.head_len-in-Open.ensures long tt (omega arith) refl (sym (add-zero c.in_ok-head.start))

pub returns-in_ok-octets-in-Ctx : goal.returns-in_ok-octets-in-Ctx
returns-in_ok-octets-in-Ctx c =
    let t = c.in_ok-head.ensures in
    let long : c.in_ok-head.start ≡ c.head_len-in-Ctx.result = omega arith in
    let lookup = rw take_rest at c.in_ok-octets-in-Ctx.ensures.lookup in
    let contents = c.in_ok-octets-in-Ctx.octets.now in
    let front = front_is (drop c.in_ok-head.start c.args.octets.now) contents c.in-Ctx.len lookup.0.2 in
    let size : length contents ≡ c.in-Ctx.len = omega (arith, lookup.0.3) in
    let most : c.in-Ctx.len ≤ 1048576 = omega arith in
    let h = headed c.in_ok-head.head (Ctx c.in-Ctx.number (length contents)) (take c.in_ok-head.start c.args.octets.now) (c.in-Ctx.is ∙ ap (Ctx c.in-Ctx.number) (sym size)) t.spelled in
    let plain : IsOctets contents = subst IsOctets front (octets_take c.in-Ctx.len (drop c.in_ok-head.start c.args.octets.now) (octets_drop c.in_ok-head.start c.args.octets.now (octets_at c.args.octets.now (λ k. omega (arith, c.type_inv.octets k))))) in
    stands_least c.args.room c.args.closing c.args.octets.now (item.Context c.in-Ctx.number c.in_ok-octets-in-Ctx.octets) c.in_ok-head.start c.in-Ctx.len (c.in_ok-head.start + c.in-Ctx.len) c.head_len-in-Ctx.result
    (h.valid, (plain, omega (arith, size, most))) tt t.within h
    (told (Ctx c.in-Ctx.number c.in-Ctx.len) (Ctx c.in-Ctx.number (length contents)) c.head_len-in-Ctx.result (ap (Ctx c.in-Ctx.number) (sym size)) c.head_len-in-Ctx.ensures) long tt (omega (arith, lookup.0.1)) front refl

pub returns-else-not-are_written : goal.returns-else-not-are_written
returns-else-not-are_written c =
    let t = c.in_ok-head.ensures in
    let long : c.in_ok-head.start ≡ c.head_len-in-App.result = omega arith in
    let lookup = rw take_rest at c.in_ok-contents-in-App.ensures.lookup in
    let contents = c.in_ok-contents-in-App.contents.now in
    let front = front_is (drop c.in_ok-head.start c.args.octets.now) contents c.in-App.len lookup.0.2 in
    let size : length contents ≡ c.in-App.len = omega (arith, lookup.0.3) in
    let is = c.are_written.ensures.0 c.if-not-are_written.false in
    let h = headed c.in_ok-head.head (App c.in-App.number (length contents)) (take c.in_ok-head.start c.args.octets.now) (c.in-App.is ∙ ap (App c.in-App.number) (sym size)) t.spelled in
    stands_least c.args.room c.args.closing c.args.octets.now (item.Application c.in-App.number c.in_ok-contents-in-App.contents true) c.in_ok-head.start c.in-App.len (c.in_ok-head.start + c.in-App.len) c.head_len-in-App.result
    (h.valid.0, h.valid.1, (is.value, is.spelled), ((λ t. is), (λ w. refl))) tt t.within h
    (told (App c.in-App.number c.in-App.len) (App c.in-App.number (length contents)) c.head_len-in-App.result (ap (App c.in-App.number) (sym size)) c.head_len-in-App.ensures) long
    (written_least c.in-App.number c.in_ok-contents-in-App.contents true is) (omega (arith, lookup.0.1)) front refl
