use Rattle.std.proofs.Common.{ℕ, ◌-◌, ◌<◌, ◌≤◌, [], ◌∷◌, length, sym, ap, ◌∙◌, inl, inr, arith}
use Rattle.model.specs.Delivery.{reply}
use Rattle.puts.specs.Words.{code_slot}
use Rattle.memory.proofs.Sound.{no_put}
use Rattle.logs.specs.Log.{lacked_of}
use Rattle.logs.proofs.Changes.{stands_in}
use Rattle.logs.proofs.Logs.{reply_length, reply_at, nth_some, nth_none}
use Rattle.logs.proofs.View.reply_at.Goals as goal

pub returns-then-i-len : goal.returns-then-i-len
unfolding code_slot
returns-then-i-len c =
    λ l r x h n e.
    let m = c.lacked-len.ensures l r x h.holds h.laid.me h.laid.log.1 n e in
    let k = reply_length x r.delivery h.holds.valid.shaped.down in
    let le : length (reply x r.delivery) ≤ c.args.i = elim c.then-i-len.either [ inl a ↦ omega arith | inr a ↦ omega arith ] in
    sym (ap code_slot (nth_none (reply x r.delivery) c.args.i le))

pub returns : goal.returns
returns c =
    λ l r x h n e.
    let d = r.delivery in
    let down = h.holds.valid.shaped.down in
    let i : ℕ = c.args.i in
    let m = c.lacked-len.ensures l r x h.holds h.laid.me h.laid.log.1 n e in
    let k = reply_length x d down in
    let lt : i < length (reply x d) = omega arith in
    let o = c.own_count-own.ensures l r (stands_in l r _ _ h) in
    c.read_log.ensures l r ((lacked_of x d - 1) - i) no_put h (omega arith) (omega arith)
    ∙ ap code_slot (ap (λ p. p ∷ []) (sym (reply_at x d i no_put down lt)) ∙ sym (nth_some (reply x d) i no_put lt))
