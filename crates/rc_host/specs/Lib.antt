pub mod HostSite
