-- The class by the head is the class of the term that the tree is of.
use Rattle.std.proofs.Common.{◌≡◌, refl}
use Rattle.logic.specs.Syntax as syntax
use Rattle.logic.specs.Tree.{thing_tree, things_tree, number_tree, formula_tree, plan_tree, proof_tree}
use Rattle.logic.specs.Terms.{Term, of_thing, of_things, of_number, of_formula, of_plan, of_proof, term_tree}
use Rattle.terms.specs.declared.records.Class.TheVariants.{Thing, Things, Number, Formula, Plan, Proof}
use Rattle.terms.specs.Classes.{tree_class, term_class}

class_of_thing : (t : syntax.Thing) → tree_class (thing_tree t) ≡ Thing
class_of_thing (syntax.Thing.var i) = refl
class_of_thing (syntax.Thing.apply s l) = refl

class_of_things : (l : syntax.Things) → tree_class (things_tree l) ≡ Things
class_of_things syntax.Things.nil = refl
class_of_things (syntax.Things.cons t l) = refl

class_of_number : (a : syntax.Number) → tree_class (number_tree a) ≡ Number
class_of_number (syntax.Number.lit n) = refl
class_of_number (syntax.Number.add a b) = refl
class_of_number (syntax.Number.minus a) = refl
class_of_number (syntax.Number.measure s l) = refl

class_of_formula : (φ : syntax.Formula) → tree_class (formula_tree φ) ≡ Formula
class_of_formula syntax.Formula.falsity = refl
class_of_formula (syntax.Formula.connect c φ ψ) = refl
class_of_formula (syntax.Formula.neg φ) = refl
class_of_formula (syntax.Formula.eq_things t u) = refl
class_of_formula (syntax.Formula.relate syntax.Relation.equal a b) = refl
class_of_formula (syntax.Formula.relate syntax.Relation.at_most a b) = refl
class_of_formula (syntax.Formula.atom s l) = refl
class_of_formula (syntax.Formula.forall φ) = refl

class_of_plan : (p : syntax.Plan) → tree_class (plan_tree p) ≡ Plan
class_of_plan syntax.Plan.id = refl
class_of_plan (syntax.Plan.step h p) = refl
class_of_plan (syntax.Plan.fork h p q) = refl

class_of_proof : (P : syntax.Proof) → tree_class (proof_tree P) ≡ Proof
class_of_proof (syntax.Proof.hyp i) = refl
class_of_proof (syntax.Proof.known k) = refl
class_of_proof (syntax.Proof.assume φ P) = refl
class_of_proof (syntax.Proof.absurd P φ) = refl
class_of_proof (syntax.Proof.eqrefl_thing t) = refl
class_of_proof (syntax.Proof.eqrefl_number a) = refl
class_of_proof (syntax.Proof.eqsub P ψ) = refl
class_of_proof (syntax.Proof.inst t P) = refl
class_of_proof (syntax.Proof.from r P) = refl
class_of_proof (syntax.Proof.from_both r P Q) = refl

pub class_is : (x : Term) → tree_class (term_tree x) ≡ term_class x
class_is (of_thing t) = class_of_thing t
class_is (of_things l) = class_of_things l
class_is (of_number a) = class_of_number a
class_is (of_formula φ) = class_of_formula φ
class_is (of_plan p) = class_of_plan p
class_is (of_proof P) = class_of_proof P
