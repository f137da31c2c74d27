use Rattle.std.specs.Prelude.{◌≡◌, ◌<◌, ◌+◌, ◌*◌, ℕ, List, [], ◌∷◌, ◌++◌, refl}
use Rattle.std.proofs.Common.{ap, subst, ◌∙◌, arith}
use Rattle.std.proofs.lemmas.Result.{on_ok_weaker}
use Rattle.bac_apdu.specs.declared.segment.SegHead.TheVariants.{Request, Ack}
use Rattle.bac_tag.specs.HeadOctets.{least_head, IsWindow}
use Rattle.bac_apdu.specs.Apdus.{segment, head_of}
use Rattle.bac_apdu.proofs.AppendingLemmas.{appends_segment}
use Rattle.bac_apdu.proofs.segment.Segment.append.Goals as goal

pub returns-in-Request-clause-written : goal.returns-in-Request-clause-written
returns-in-Request-clause-written c =
    let request = c.in-Request.head in
    let value = segment (Request request) c.args.self.now.seq c.args.self.now.window c.args.self.now.more c.args.self.now.choice c.args.self.now.piece.items in
    let head = c.first_octet.result ∷ (16 * c.number.result + c.number-in-Request.result) ∷ request.invoke ∷ c.args.self.now.seq ∷ c.number-in-Request-2.result ∷ c.args.self.now.choice ∷ [] in
    let limits : 16 * c.number.result + c.number-in-Request.result ≡ 16 * request.segs + request.resp = omega (arith, c.number.ensures.number, c.number-in-Request.ensures.number) in
    let size : IsWindow c.args.self.now.window = subst IsWindow c.number-in-Request-2.ensures.number c.number-in-Request-2.ensures.range in
    let same : head ≡ least_head (head_of value) = ap (λ (n : ℕ). c.first_octet.result ∷ (16 * c.number.result + c.number-in-Request.result) ∷ request.invoke ∷ c.args.self.now.seq ∷ n ∷ c.args.self.now.choice ∷ []) c.number-in-Request-2.ensures.number
    ∙ ap (λ (n : ℕ). c.first_octet.result ∷ n ∷ request.invoke ∷ c.args.self.now.seq ∷ c.args.self.now.window ∷ c.args.self.now.choice ∷ []) limits
    ∙ ap (λ (n : ℕ). n ∷ (16 * request.segs + request.resp) ∷ request.invoke ∷ c.args.self.now.seq ∷ c.args.self.now.window ∷ c.args.self.now.choice ∷ []) c.first_octet.ensures in
    rw c.in-Request.is
    (on_ok_weaker c.append_piece.result (λ e. appends_segment value c.args.out.now.items head c.append_piece.new.out.items c.args.self.now.piece.items c.type_inv.out
    (λ o. (tt, ((subst (λ (n : ℕ). n < 8) c.number.ensures.number c.number.ensures.range, subst (λ (n : ℕ). n < 16) c.number-in-Request.ensures.number c.number-in-Request.ensures.range), (o.1.1.0, (o.1.1.1.0, (size, (o.1.1.1.1.1.0, tt)))))))
    same (λ p. (refl, p)) (λ d k. k.0) (e ∙ ap (λ (l : List ℕ). (c.args.out.now.items ++ head) ++ l) c.deref.ensures.value)) c.append_piece.ensures.written)

pub returns-in-Ack-clause-written : goal.returns-in-Ack-clause-written
returns-in-Ack-clause-written c =
    let invoke = c.in-Ack.invoke in
    let value = segment (Ack invoke) c.args.self.now.seq c.args.self.now.window c.args.self.now.more c.args.self.now.choice c.args.self.now.piece.items in
    let head = c.first_octet-first.result ∷ invoke ∷ c.args.self.now.seq ∷ c.number-in-Ack.result ∷ c.args.self.now.choice ∷ [] in
    let size : IsWindow c.args.self.now.window = subst IsWindow c.number-in-Ack.ensures.number c.number-in-Ack.ensures.range in
    let same : head ≡ least_head (head_of value) = ap (λ (n : ℕ). c.first_octet-first.result ∷ invoke ∷ c.args.self.now.seq ∷ n ∷ c.args.self.now.choice ∷ []) c.number-in-Ack.ensures.number
    ∙ ap (λ (n : ℕ). n ∷ invoke ∷ c.args.self.now.seq ∷ c.args.self.now.window ∷ c.args.self.now.choice ∷ []) c.first_octet-first.ensures in
    rw c.in-Ack.is
    (on_ok_weaker c.append_piece-in-Ack.result (λ e. appends_segment value c.args.out.now.items head c.append_piece-in-Ack.new.out.items c.args.self.now.piece.items c.type_inv.out
    (λ o. (tt, (o.1.0, (o.1.1.0, (size, (o.1.1.1.1.0, tt))))))
    same (λ p. (refl, p)) (λ d k. k.0) (e ∙ ap (λ (l : List ℕ). (c.args.out.now.items ++ head) ++ l) c.deref-in-Ack.ensures.value)) c.append_piece-in-Ack.ensures.written)
