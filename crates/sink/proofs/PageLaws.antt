-- Pages.
use Rattle.std.proofs.Common.{◌≡◌, ◌≤◌, length, sym, ap, subst}
use Rattle.std.proofs.Math.Bridge.{le_prop}
use Rattle.sink.specs.declared.meter.Meter.{Meter}
use Rattle.sink.specs.declared.page.Page.{Page}

-- A page whose meter is what it was is what it was.
pub same_page : (p : Page) (m : Meter) (f : m.announced ≤ length p.buffer.now) → m ≡ p.meter → ◌≡◌ {A = Page} (record { buffer = p.buffer; meter = m; fits = f }) p
same_page p m f e = subst P (sym e) (λ g. ap at (le_prop g p.fits)) f
  where
    P : Meter → Type 0
    P x = (g : x.announced ≤ length p.buffer.now) → ◌≡◌ {A = Page} (record { buffer = p.buffer; meter = x; fits = g }) p

    at : p.meter.announced ≤ length p.buffer.now → Page
    at g = record { buffer = p.buffer; meter = p.meter; fits = g }
