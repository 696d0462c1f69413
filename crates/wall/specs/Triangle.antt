-- A triangle as the rules have it: by its contact with the base, and where it begins.
use Rattle.rules.specs.declared.Fraction.{Fraction}
use Rattle.wall.specs.declared.triangle.Triangle.{Triangle}
use Rattle.wall.specs.Working.{fraction, begins}

-- the length of base in contact
abbrev pub in_contact : Triangle → Fraction
in_contact t = fraction t.contact.over t.contact.under

-- where one from the heel begins
abbrev pub begins_at : Triangle → Fraction
begins_at t = begins t.l t.contact.over t.contact.under
