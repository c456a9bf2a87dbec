use Rattle.std.proofs.Common.{◌≡◌, suc, eqb, get_or, sym, ◌∙◌, arith}
use Rattle.std.proofs.lemmas.Bool.{ne_eqb, and_left}
use Rattle.model.specs.Clock.{at, below}
use Rattle.model.specs.Put.{Put, Body, number}
use Rattle.model.specs.Delivery.{ready}
use Rattle.puts.proofs.Padded.{get_or_pad}
use Rattle.delivery.proofs.Reading.{none_some, some_some, head_here, put_here, chosen_none, chosen_some, ready_is}
use Rattle.delivery.proofs.ready_at.Goals as goal

pub returns-in_err-head : goal.returns-in_err-head
returns-in_err-head c = λ l r d s h k. absurd (none_some _ (sym c.in_err-head.was ∙ head_here l r _ _ s c.args.i h d _ c.waiting_slot-slot.ensures _ c.read_head.ensures))

pub returns-then-head-count : goal.returns-then-head-count
returns-then-head-count c =
    λ l r d s h k.
    let q : Put Body = get_or r.delivery.waiting c.args.i d in
    let cl = r.delivery.clock in
    let v = s.fitted.fits.delivery in
    let z = some_some _ _ (sym c.in_ok-head.was ∙ head_here l r _ _ s c.args.i h d _ c.waiting_slot-slot.ensures _ c.read_head.ensures) in
    let a : c.count.result ≡ at cl q.from = c.count.ensures ∙ (λ i. at (k i).counts (z i).from) ∙ get_or_pad 16 cl q.from (omega (arith, v.clock, v.replicas)) in
    let b : c.in_ok-head.head.number ≡ number q = λ i. (z i).number in
    chosen_none (ready r.delivery q) q
    (and_left (eqb (number q) (suc (at cl q.from))) (below q.seen cl) (ne_eqb (number q) (suc (at cl q.from)) (λ e. c.if-head-count.true (omega (arith, v.small q.from)))))

pub returns-in_err-p : goal.returns-in_err-p
returns-in_err-p c = λ l r d s h k. absurd (none_some _ (sym c.in_err-p.was ∙ put_here l r _ _ s c.args.i h d _ c.waiting_slot-slot.ensures _ c.read_slot.ensures))

pub returns-then-not-ready : goal.returns-then-not-ready
returns-then-not-ready c =
    λ l r d s h k.
    let q : Put Body = get_or r.delivery.waiting c.args.i d in
    let v = s.fitted.fits in
    let e = some_some _ _ (sym c.in_ok-p.was ∙ put_here l r _ _ s c.args.i h d _ c.waiting_slot-slot.ensures _ c.read_slot.ensures) in
    let b = ready_is l r q _ _ _ v (v.delivery.waits c.args.i d h) k e c.ready.ensures in
    chosen_none (ready r.delivery q) q (sym b ∙ c.if-not-ready.true)

pub returns : goal.returns
returns c =
    λ l r d s h k.
    let q : Put Body = get_or r.delivery.waiting c.args.i d in
    let v = s.fitted.fits in
    let e = some_some _ _ (sym c.in_ok-p.was ∙ put_here l r _ _ s c.args.i h d _ c.waiting_slot-slot.ensures _ c.read_slot.ensures) in
    let b = ready_is l r q _ _ _ v (v.delivery.waits c.args.i d h) k e c.ready.ensures in
    chosen_some (ready r.delivery q) q _ (sym b ∙ c.if-not-ready.false) e
