-- What an opener stands for, beside its handler.
use Rattle.std.specs.Prelude.{ℕ, Option}
use Rattle.loader.specs.declared.loaded.Image.{Image}
use Rattle.opener.specs.declared.work.Work.{Work}

-- its number, the image that it keeps, its holds, and what it is at
pub record OpenerState : Type 0 where
  pub who : ℕ
  pub image : Option Image
  pub holds : ℕ
  pub work : Work
