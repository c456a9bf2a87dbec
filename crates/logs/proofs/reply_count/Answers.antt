use Rattle.std.proofs.Common.{arith}
use Rattle.logs.proofs.Logs.{reply_length}
use Rattle.logs.proofs.reply_count.Goals as goal

pub returns : goal.returns
returns c =
    record {
      most = omega arith;
      count = λ l r x h i g n e. let m = c.lacked.ensures l r x h i g n e in omega (arith, reply_length x r.delivery h.valid.shaped.down);
    }
