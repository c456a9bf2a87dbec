use Rattle.std.proofs.Common.{◌||◌, sym, ap, ◌∙◌, arith}
use Rattle.model.specs.Put.{number}
use Rattle.model.specs.Delivery.{is_in}
use Rattle.puts.specs.Values.{Put}
use Rattle.puts.specs.Values.{put_of}
use Rattle.puts.proofs.Padded.{number_code}
use Rattle.delivery.proofs.Takes.{from_code}
use Rattle.delivery.proofs.nothing_new.Goals as goal

pub returns-else-had : goal.returns-else-had
returns-else-had c =
    λ l r q t s e.
    let b = ap (λ (p : Put). number (put_of p)) e ∙ number_code q s.fit in
    c.is_waiting.ensures l r q t (from_code _ q e) (c.number.ensures (omega (arith, s.fit.number)) ∙ b)
    ∙ sym (ap (λ b. b || is_in q r.delivery.waiting) (sym (c.had.ensures l r q t.fitted s e) ∙ c.if-had.false))
