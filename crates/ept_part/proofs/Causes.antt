-- Which refusal of a step a refusal of the part was.
use Rattle.std.proofs.Common.{◌≡◌, ◌≢◌, ◌∙◌, inl, inr, ℕ, refl, sym}
use Rattle.ept_scan.specs.declared.scan_error.ScanError.{ScanError}
use Rattle.ept_scan.specs.declared.scan_error.ScanError.TheVariants as scan
use Rattle.ept_scan.specs.declared.read_error.ReadError.{ReadError}
use Rattle.ept_scan.specs.declared.read_error.ReadError.TheVariants as read
use Rattle.ept_tree.specs.declared.tree_error.TreeError.{TreeError}
use Rattle.ept_tree.specs.declared.tree_error.TreeError.TheVariants as tree
use Rattle.ept_part.specs.declared.error.PartError.{PartError}
use Rattle.ept_part.specs.declared.error.PartError.TheVariants.{SourceFault, SourceChanged, TooManyNodes, StoreFault, Memory}
use Rattle.ept_part.specs.Errors.{of_scan, of_read, of_tree, IsOfSampling}

-- ---- of the scan

pub scan-no_store : (e : ScanError) → of_scan e ≢ StoreFault
scan-no_store scan.SourceFault is = cc
scan-no_store (scan.BadLas source fault) is = cc
scan-no_store (scan.OutOfBounds source number) is = cc
scan-no_store (scan.TooManyPoints source) is = cc
scan-no_store scan.NoBounds is = cc
scan-no_store scan.Memory is = cc

pub scan-fault : (e : ScanError) → of_scan e ≡ SourceFault → e ≡ scan.SourceFault
scan-fault scan.SourceFault is = refl
scan-fault (scan.BadLas source fault) is = cc
scan-fault (scan.OutOfBounds source number) is = cc
scan-fault (scan.TooManyPoints source) is = cc
scan-fault scan.NoBounds is = cc
scan-fault scan.Memory is = cc

-- ---- of the second reading

pub read-fault : (e : ReadError) → of_read e ≡ SourceFault → e ≡ read.SourceFault
read-fault read.SourceFault is = refl
read-fault (read.SourceChanged source number) is = cc
read-fault read.Memory is = cc

pub read-changed : (e : ReadError) (source number : ℕ) → of_read e ≡ SourceChanged source number → e ≡ read.SourceChanged source number
read-changed read.SourceFault source number is = cc
read-changed (read.SourceChanged source' number') source number is = cc
read-changed read.Memory source number is = cc

pub read-of_sampling : (e : ReadError) → IsOfSampling (of_read e)
read-of_sampling read.SourceFault = inl refl
read-of_sampling (read.SourceChanged source number) = inr (inr (inr (source, number, refl)))
read-of_sampling read.Memory = inr (inr (inl refl))

pub read-few : (e : ReadError) → of_read e ≢ TooManyNodes
read-few read.SourceFault is = cc
read-few (read.SourceChanged source number) is = cc
read-few read.Memory is = cc

-- ---- of the tree

pub was_many : (e : TreeError) → of_tree e ≡ TooManyNodes → e ≡ tree.TooManyNodes
was_many tree.TooManyNodes is = refl
was_many tree.Memory is = cc

pub tree-of_sampling : (e : TreeError) → IsOfSampling (of_tree e)
tree-of_sampling tree.TooManyNodes = inr (inl refl)
tree-of_sampling tree.Memory = inr (inr (inl refl))

pub tree-no_fault : (e : TreeError) → of_tree e ≢ SourceFault
tree-no_fault tree.TooManyNodes is = cc
tree-no_fault tree.Memory is = cc

pub tree-no_change : (e : TreeError) (source number : ℕ) → of_tree e ≢ SourceChanged source number
tree-no_change tree.TooManyNodes source number is = cc
tree-no_change tree.Memory source number is = cc

-- ---- of the sampling

pub sampling-no_store : (e : PartError) → IsOfSampling e → e ≢ StoreFault
sampling-no_store e (inl is) same = let other : SourceFault ≡ StoreFault = sym is ∙ same in cc
sampling-no_store e (inr (inl is)) same = let other : TooManyNodes ≡ StoreFault = sym is ∙ same in cc
sampling-no_store e (inr (inr (inl is))) same = let other : Memory ≡ StoreFault = sym is ∙ same in cc
sampling-no_store e (inr (inr (inr (source, number, is)))) same = let other : SourceChanged source number ≡ StoreFault = sym is ∙ same in cc
