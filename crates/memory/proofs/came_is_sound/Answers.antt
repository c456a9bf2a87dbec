use Rattle.memory.proofs.Sound.{came_sound}
use Rattle.memory.proofs.came_is_sound.Goals as goal

pub returns : goal.returns
returns c = λ l p g bytes e. came_sound l p g.replicas.1 bytes e
