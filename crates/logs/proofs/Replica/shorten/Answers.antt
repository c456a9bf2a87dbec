use Rattle.std.proofs.Common.{◌≡◌, ℕ, suc, ◌+◌, ◌-◌, ◌%◌, take, refl, ◌∙◌, subst, arith}
use Rattle.puts.specs.Words.{slot_words}
use Rattle.memory.specs.State.{with_log, own_count}
use Rattle.logs.specs.State.{Fitted}
use Rattle.logs.proofs.Changes.{shorter}
use Rattle.logs.proofs.Replica.shorten.Goals as goal

pub loop-len-preserved : goal.loop-len-preserved
unfolding slot_words
loop-len-preserved c = (
  record { mem = c.loop-len.invariant.0.mem; at = c.loop-len.invariant.0.at },
  omega (arith, c.loop-len.invariant.1),
  λ l r s d o.
      let i = c.loop-len.invariant.2 l r s d o in
      let j : ℕ = c.loop-len.len - 1 in
      let e : c.loop-len.len ≡ suc j = omega arith in
      let w = i.2.laid in
      let P : ℕ → Type 0 = λ n. Fitted l (with_log (take n r.delivery.log) r) c.loop-len.self.mem.now in
      let a : c.saturating_sub.result ≡ own_count r - j = omega arith in
      let k = c.log_slot-slot.ensures ∙ (λ k. w.log.0 k + a k % w.log.1 k) in (
        omega arith,
        (λ t. omega arith),
        record { fitted = shorter l r _ _ _ _ _ j s.fitted.fits d (omega (arith, i.0)) k refl c.clear_slot.ensures c.write_word.ensures (subst P e i.2.fitted); laid = w },
      ),
)
