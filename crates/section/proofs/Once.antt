-- Document 01, "How strictly it is promised": no second answer fits, of each public entry.
use Rattle.section.specs.contracts as contracts
use Rattle.section.proofs as section
use Rattle.whole.proofs.OnlyOne.{Once, by_equation}

pub judged : Once contracts.judged.ended section.judged.Reads.Asked section.judged.Reads.Learnt
judged = (λ _ _. tt, λ _ _ _ _ _ _. by_equation)

pub toe_section_lem : Once contracts.of_wall.toe_section.ended section.of_wall.toe_section.Reads.Asked section.of_wall.toe_section.Reads.Learnt
toe_section_lem = (λ _ _. tt, λ _ _ _ _ _ _. by_equation)

pub stem_section_lem : Once contracts.of_wall.stem_section.ended section.of_wall.stem_section.Reads.Asked section.of_wall.stem_section.Reads.Learnt
stem_section_lem = (λ _ _. tt, λ _ _ _ _ _ _. by_equation)

pub heel_section_lem : Once contracts.of_wall.heel_section.ended section.of_wall.heel_section.Reads.Asked section.of_wall.heel_section.Reads.Learnt
heel_section_lem = (λ _ _. tt, λ _ _ _ _ _ _. by_equation)
