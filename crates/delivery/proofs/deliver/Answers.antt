use Rattle.std.proofs.Common.{sym, ◌∙◌, subst}
use Rattle.model.specs.Replica.{Replica}
use Rattle.model.specs.Delivery.{begin, take_one}
use Rattle.logs.specs.State.{Held}
use Rattle.logs.proofs.Changes.{stands_in, seen}
use Rattle.delivery.proofs.Settled.{taken_first, comes_again, comes_early, comes_ready, is_others, has_room}
use Rattle.delivery.proofs.deliver.Goals as goal

pub returns-then-again-clause-does : goal.returns-then-again-clause-does
returns-then-again-clause-does c =
    λ l r q h s p m e.
    let f = seen l r c.args.replica.now c.view-view.result c.view-view.ensures (stands_in l r _ _ h) in
    let R : Replica → Type 0 = λ x. Held l x c.args.replica.now in
    subst R (comes_again l r q (sym (c.nothing_new-again.ensures l r q f s e) ∙ c.if-again.true)) h

pub returns-else-next-clause-does : goal.returns-else-next-clause-does
returns-else-next-clause-does c =
    λ l r q h s p m e.
    let f = seen l r c.args.replica.now c.view-view.result c.view-view.ensures (stands_in l r _ _ h) in
    let R : Replica → Type 0 = λ x. Held l x c.enqueue.new.replica in
    let n = sym (c.nothing_new-again.ensures l r q f s e) ∙ c.if-again.false in
    let t = sym (c.ready-next.ensures l r q f.fitted s e) ∙ c.if-next.false in
    subst R (comes_early l r q n t) (c.enqueue.ensures.does l r q h s (is_others l r q n p) (has_room l r q n t m) e)

pub returns-then-next-clause-does : goal.returns-then-next-clause-does
returns-then-next-clause-does c =
    λ l r q h s p m e.
    let f = seen l r c.args.replica.now c.view-view.result c.view-view.ensures (stands_in l r _ _ h) in
    let R : Replica → Type 0 = λ x. Held l x c.settle.new.replica in
    let n = sym (c.nothing_new-again.ensures l r q f s e) ∙ c.if-again.false in
    let t = sym (c.ready-next.ensures l r q f.fitted s e) ∙ c.if-next.true in
    let u = taken_first l r _ q (c.take_other.ensures.does l r q h s t (is_others l r q n p) e) in
    subst R (comes_ready l r q n t) (c.settle.ensures.does l (take_one q (begin r.delivery)) r.store u)
