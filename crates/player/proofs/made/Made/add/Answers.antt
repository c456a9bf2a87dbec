use Rattle.std.proofs.Common.{[], ◌∷◌, ◌++◌, vec_items, ap, ◌∙◌}
use Rattle.player.specs.Remembered.{one_more, remembered}
use Rattle.player.proofs.Remembers.{added}
use Rattle.player.proofs.made.Made.add.Goals as goal

pub returns-in_ok-push : goal.returns-in_ok-push
returns-in_ok-push c =
    let all = c.args.self.now.puts in
    let more = c.in_ok-push.ensures.items ∙ ap (λ v. vec_items v ++ (c.in_ok-bytes.bytes ∷ [])) c.in-Some.ensures.value in
    added (vec_items all) c.args.put.now.from _ c.push.new.self c.in_ok-bytes.bytes c.in-Some.ensures.item.3.0 more ∙ ap (one_more (remembered all) c.args.put.now.from) c.in_ok-bytes.ensures
