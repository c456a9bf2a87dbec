use Rattle.memory.proofs.Images.{encode_length}
use Rattle.memory.proofs.image_size.Goals as goal

pub returns : goal.returns
returns c = λ l r v. encode_length l r v.fits
