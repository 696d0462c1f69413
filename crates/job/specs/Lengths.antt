-- A wall with nothing but those lengths that the range of a load on it takes from the wall.
use Rattle.std.specs.Prelude.{◌-◌, ◌∷◌, replicate}
use Rattle.rules.specs.JobFile.{Wall, wall_fields, stem_height, stem_thickness, toe_length, heel_length, base_thickness}

-- 0 stands for the kind, and for each field behind the base's thickness, the downstand's among them
unfoldable pub lengths_of : Wall → Wall
lengths_of wall =
    0 ∷ stem_height wall ∷ stem_thickness wall ∷ toe_length wall ∷ heel_length wall ∷ base_thickness wall ∷ replicate (wall_fields - 6) 0
