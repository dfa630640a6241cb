use Rattle.std.proofs.Common.{◌≡◌, ◌<◌, length, get_or}
use Rattle.state_space.specs.Spaces.{sizes, ranges}
use Rattle.temporal_logic.specs.Fits.{Fits}
use Rattle.goal_model.specs.Models.{PropertyForm, property_of}
use Rattle.goal_model.proofs.Tables.{all_at}
use Rattle.goal_model.proofs.item_size.measured_domains.Goals as goal

pub domains-init : goal.domains-init
domains-init c = c.none-measured.ensures (sizes c.args.contents.now.space)

pub add-requires : goal.add-requires
add-requires c =
    let properties = c.args.contents.now.domains.items in
    let inside : c.domains.property-index < length properties = rw c.deref-property-items.ensures.value at c.domains-test.true in
    let item : c.property-item.result ≡ get_or properties c.domains.property-index c.property-item.result = rw c.deref-property-items.ensures.value at c.property-item.is in
    all_at (λ (p : PropertyForm). Fits (ranges c.args.contents.now.space) p.formula) property_of properties c.domains.property-index c.property-item.result inside item c.requires.domains
