-- A step of a reassembly.
use Rattle.std.proofs.Common.{◌≡◌, ℕ, Bool, true, false, not, Ok, Err, refl, sym, ap, ◌∙◌, ◌&&◌, eqb}
use mathlib.Core.Bool.{beq}
use Rattle.std.proofs.lemmas.Bool.{eqb-true, and_parts, not-false}
use Rattle.bac_segment.specs.declared.keys.Key.{Key}
use Rattle.bac_segment.specs.declared.faults.TakeFault.TheVariants.{OtherKey, Conflict, PastEnd, TooLarge, OutOfMemory, DeskFull}
use Rattle.bac_segment.specs.Deliveries.{Delivery, key_of}
use Rattle.bac_segment.specs.Tables.{Table}
use Rattle.bac_segment.specs.Taking.{Answer, Keeps}
use Rattle.bac_segment.specs.Reassembled.{Reassembled, Takes}
use Rattle.bac_segment.proofs.JudgeLemmas.{no_fault_of}

beq-true : (a b : Bool) → beq a b ≡ true → a ≡ b
beq-true true true h = refl
beq-true false false h = refl
beq-true true false h = absurd (let j : false ≡ true = h in cc)
beq-true false true h = absurd (let j : false ≡ true = h in cc)

-- what the derived `!=` says
pub same_key : (a b : Key) → false ≡ not (eqb a.peer b.peer && (beq a.request b.request && (eqb a.invoke b.invoke && eqb a.choice b.choice))) → a ≡ b
same_key a b h =
    let one = and_parts _ _ (not-false _ (sym h)) in
    let two = and_parts _ _ one.1 in
    let three = and_parts _ _ two.1 in
    ap (λ (x : ℕ). let k : Key = record { peer = x; request = a.request; invoke = a.invoke; choice = a.choice } in k) (eqb-true _ _ one.0)
    ∙ ap (λ (x : Bool). let k : Key = record { peer = b.peer; request = x; invoke = a.invoke; choice = a.choice } in k) (beq-true _ _ two.0)
    ∙ ap (λ (x : ℕ). let k : Key = record { peer = b.peer; request = b.request; invoke = x; choice = a.choice } in k) (eqb-true _ _ three.0)
    ∙ ap (λ (x : ℕ). let k : Key = record { peer = b.peer; request = b.request; invoke = b.invoke; choice = x } in k) (eqb-true _ _ three.1)

pub takes : (old : Reassembled) (s : Delivery) (a : Answer) (m : Table) → key_of old.key.peer s ≡ old.key → Keeps old.table s a m → Takes old s a (record { key = old.key; table = m })
takes old s (Ok x) m k h = (k, h, refl)
takes old s (Err OtherKey) m k h = absurd (no_fault_of old.table s OtherKey tt (sym h.0))
takes old s (Err OutOfMemory) m k h = (k, h, refl)
takes old s (Err Conflict) m k h = (k, h, refl)
takes old s (Err PastEnd) m k h = (k, h, refl)
takes old s (Err TooLarge) m k h = (k, h, refl)
takes old s (Err DeskFull) m k h = absurd (no_fault_of old.table s DeskFull tt (sym h.0))
