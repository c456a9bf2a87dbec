use Rattle.std.proofs.Common.{List, sym, ◌∙◌, subst}
use Rattle.model.specs.Put.{Put, Body}
use Rattle.model.specs.Replica.{moved}
use Rattle.model.specs.Delivery.{settle}
use Rattle.memory.specs.State.{with_waiting}
use Rattle.logs.specs.State.{Held}
use Rattle.logs.proofs.Changes.{stands_in, holds}
use Rattle.delivery.proofs.Takes.{shaped_cleaned}
use Rattle.delivery.proofs.Settled.{settled_empty}
use Rattle.delivery.proofs.settle.Goals as goal

pub returns-clause-does : goal.returns-clause-does
returns-clause-does c =
    λ l m s u₀.
    let u = c.take_waiting.ensures.does l m s u₀ in
    let x = settle l.waiting_most m in
    let r = with_waiting u.all (moved x s) in
    let P : List (Put Body) → Type 0 = λ ws. Held l (with_waiting ws (moved x s)) c.clean.new.replica in
    let t = c.clean.ensures.does l r (stands_in l r _ _ u.held) in
    subst P u.rest (record { holds = holds l r _ _ _ u.held.holds (shaped_cleaned l r u.held.holds.valid.shaped) t.fitted; laid = t.laid })

pub returns-then-waiting-eq0-clause-does : goal.returns-then-waiting-eq0-clause-does
returns-then-waiting-eq0-clause-does c = λ l m s u. let r = with_waiting u.all (moved m s) in settled_empty l m s _ u (sym (c.waiting.ensures.count l r (stands_in l r _ _ u.held)) ∙ c.if-waiting-eq0.true)
