use Rattle.loader.proofs.WholeGoesOn.{whole_images_go_on}
use Rattle.loader.proofs.laws.a_kept_image_goes_on_to_a_whole_one.Goals as goal

pub returns : goal.returns
returns c = λ i start past size run was sequence shows. whole_images_go_on i start past size run was sequence shows
