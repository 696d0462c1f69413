-- What a wall's ranges go by.
use Rattle.rules.specs.JobFile.{Wall, base_length, wall_height, downstand_depth, downstand_position}
use Rattle.record.specs.declared.Measures.{Measures}

abbrev pub measures_of : Wall → Measures
measures_of wall =
    record {
      height = wall_height wall;
      length = base_length wall;
      depth = downstand_depth wall;
      position = downstand_position wall;
    }
