-- What it tells of a wall with its loads that they fit.
use Rattle.rules.proofs.Examined.{Fit, fit}
use Rattle.forces.specs.declared.loaded.LoadedWall.{LoadedWall}

pub fitted : (l : LoadedWall) → Fit l.wall l.loads
fitted l = fit l.wall l.loads l.fits
