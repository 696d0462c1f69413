-- Document 01, "How strictly it is promised": no second answer fits, of each public entry.
use Rattle.whole.proofs.OnlyOne.{Once, by_equation}
use Rattle.record.specs.contracts as contracts
use Rattle.record.proofs as record'

pub field : Once contracts.field.ended record'.field.Reads.Asked record'.field.Reads.Learnt
field = (λ _ _. tt, λ _ _ _ _ _ _ is its. by_equation is.0 its.0)

pub base_length_lem : Once contracts.base_length.ended record'.base_length.Reads.Asked record'.base_length.Reads.Learnt
base_length_lem = (λ _ _. tt, λ _ _ _ _ _ _. by_equation)

pub crest_height_lem : Once contracts.crest_height.ended record'.crest_height.Reads.Asked record'.crest_height.Reads.Learnt
crest_height_lem = (λ _ _. tt, λ _ _ _ _ _ _. by_equation)

pub wall_height_lem : Once contracts.wall_height.ended record'.wall_height.Reads.Asked record'.wall_height.Reads.Learnt
wall_height_lem = (λ _ _. tt, λ _ _ _ _ _ _. by_equation)

pub wall_answer_lem : Once contracts.wall_answer.ended record'.wall_answer.Reads.Asked record'.wall_answer.Reads.Learnt
wall_answer_lem = (λ _ _. tt, λ _ _ _ _ _ _. by_equation)

pub load_fits : Once contracts.load_fits.ended record'.load_fits.Reads.Asked record'.load_fits.Reads.Learnt
load_fits = (λ _ _. tt, λ _ _ _ _ _ _. by_equation)

pub examined : Once contracts.examined.ended record'.examined.Reads.Asked record'.examined.Reads.Learnt
examined = (λ _ _. tt, λ _ _ _ _ _ _. by_equation)

pub load_of_lem : Once contracts.load_of.ended record'.load_of.Reads.Asked record'.load_of.Reads.Learnt
load_of_lem = (λ _ _. tt, λ _ _ _ _ _ _. by_equation)

pub load_answer_lem : Once contracts.load_answer.ended record'.load_answer.Reads.Asked record'.load_answer.Reads.Learnt
load_answer_lem = (λ _ _. tt, λ _ _ _ _ _ _. by_equation)

pub count_on_lem : Once contracts.count_on.ended record'.count_on.Reads.Asked record'.count_on.Reads.Learnt
count_on_lem = (λ _ _. tt, λ _ _ _ _ _ _. by_equation)
