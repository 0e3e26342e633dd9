use Rattle.mt_durable.proofs.Allowed.{allowed_after, image_says}
use Rattle.mt_durable.proofs.laws.maps_have_images.Goals as goal

pub returns : goal.returns
returns c = record { allowed = allowed_after; image = image_says c.narrow_is_element.ensures }
